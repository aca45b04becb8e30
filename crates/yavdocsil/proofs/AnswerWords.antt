-- An answer in its word, and what is read off it and the words.
-- Assumes nothing.
use Rattle.std.specs.Prelude.{Ok}
use Rattle.std.proofs.lemmas.Result.{IfOk-at_ok}
use mathlib.Core.Path.{◌≡◌, refl, sym, ap, ap₂, ◌∙◌}
use mathlib.Core.Bool.{true}
use mathlib.Core.List.{List}
use Prim.Native.Nat.{ℕ, ◌/◌, ◌<◌}
use native.Mathlib.Omega.{arith}
use Rattle.table.specs.Answer.{Answer}
use Rattle.table.specs.declared.Done.{Done}
use Rattle.table.specs.declared.State.{State}
use Rattle.table.specs.Answer.{number, value, done}
use Rattle.table.proofs.Variants.{done-value}
use Rattle.yavdocsil.specs.Words.{value_limit, answer_word, state_from}
use Rattle.yavdocsil.specs.Called.{success}

-- an answer below 2³² is a success
module _ (a : Answer) (r : ℕ) (e : r ≡ answer_word a) where
  pub word-done : r < value_limit → number a ≡ 0
  unfolding answer_word
  word-done h = omega (arith, e)

  pub word-success : r < value_limit → done a ≡ true
  word-success h = sym (ap done (done-value a (word-done h)))

  -- and its value
  word_value : r < value_limit → Ok r ≡ a
  unfolding answer_word
  word_value h = let none = word-done h in ap Ok (omega (arith, e, none)) ∙ done-value a none

  -- the number is what stands above the value
  pub word_number : value a < value_limit → r / value_limit ≡ number a
  unfolding answer_word
  word_number h = omega (arith, e)

-- what a success answers and leaves, read off the answer and the words
pub read_off : (d : Done) (r : ℕ) → r ≡ answer_word (Ok d.value) → r < value_limit → (words : List ℕ) → state_from words ≡ d.state
    → success r words ≡ d
read_off d r e h words s =
    let v : r ≡ d.value = IfOk-at_ok (λ x. r ≡ x) (word_value (Ok d.value) r e h) refl in
    ap₂ (λ (a : ℕ) (t : State). record { value = a; state = t }) v s
