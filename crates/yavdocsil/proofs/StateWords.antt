-- The state in its words: read, written, and read again after it was written.
-- Assumes nothing.
use mathlib.Core.Path.{◌≡◌, refl, ap, ap₂, ◌∙◌}
use mathlib.Core.List.{List, [], ◌∷◌, ◌++◌, append_assoc}
use Prim.Native.Nat.{ℕ, ◌≤◌}
use native.Mathlib.Omega.{arith}
use lib.ListN.{length, take, drop, length-drop}
use lib.Seq.{paste, take_at, drop_at, take_all, length-take-le}
use Rattle.diagram.specs.Networks.Bound.{most_variables}
use Rattle.table.specs.declared.State.{State}
use Rattle.table.specs.declared.Stage.{Stage}
use Rattle.table.specs.declared.Stage.TheVariants.{Nothing, Table as AtTable, Network}
use Rattle.yavdocsil.specs.Words.{state_words, order_at, stage_from, stage_word, state_from, with_state}

stage-again : (s : Stage) → stage_from (stage_word s) ≡ s
stage-again Nothing = refl
stage-again AtTable = refl
stage-again Network = refl

-- the heading written, then the order
pub written : (s : State) (words first after : List ℕ) (w : ℕ) → w ≡ stage_word s.stage
    → first ≡ paste words 0 (s.n ∷ s.m ∷ s.count ∷ w ∷ []) 4 → after ≡ paste first order_at s.order most_variables
    → after ≡ with_state s words
unfolding with_state
written s words first after w e f a =
    a
    ∙ ap (λ (l : List ℕ). paste l order_at s.order most_variables)
    (f ∙ ap (λ (x : ℕ). paste words 0 (s.n ∷ s.m ∷ s.count ∷ x ∷ []) 4) e)

-- reading what was written gives the state again
module _ (s : State) (words : List ℕ) (h : state_words ≤ length words) (l : length s.order ≡ most_variables) where
  order-again : (state_from (with_state s words)).order ≡ s.order
  unfolding state_from with_state
  order-again =
      let kept : List ℕ = take 4 (drop 4 words) in
      let rest : List ℕ = drop 14 (drop 4 words) in
      let four : length kept ≡ 4 = length-take-le 4 (drop 4 words) (omega (arith, length-drop 4 words)) in
      let all : take most_variables s.order ≡ s.order = take_all most_variables s.order (omega arith) in
      ap (λ (l : List ℕ). take most_variables (drop 4 l)) (append_assoc kept (take most_variables s.order) rest)
      ∙ ap (take most_variables) (drop_at kept (take most_variables s.order ++ rest) 4 four)
      ∙ ap (λ (l : List ℕ). take most_variables (l ++ rest)) all
      ∙ take_at s.order rest most_variables l

  pub read-written : state_from (with_state s words) ≡ s
  unfolding state_from with_state
  read-written =
      ap₂ (λ (o : List ℕ) (t : Stage). record { n = s.n; m = s.m; order = o; count = s.count; stage = t }) order-again
      (stage-again s.stage)
