-- A call on a state in words: 10 where they are too few, else what the call itself answers and leaves.
-- Assumes nothing.
use Rattle.std.specs.Prelude.{Ok, Err, IfOk}
use Rattle.std.proofs.lemmas.Result.{IfOk-at_ok}
use mathlib.Core.Path.{◌≡◌, sym, ap, ◌∙◌, subst}
use mathlib.Core.Bool.{Bool, true}
use mathlib.Core.Logic.{◌↔◌}
use mathlib.Core.List.{List}
use Prim.Native.Nat.{ℕ, ◌/◌, ◌≤◌, ◌<◌}
use native.Mathlib.Omega.{arith}
use borrow.Author.Tests.{le-leb, lt-leb}
use lib.Dec.{leb→le}
use lib.ListN.{length}
use Rattle.lists.proofs.Bools.{to-T}
use Rattle.table.specs.Answer.{Answer, Outcome}
use Rattle.table.specs.declared.Refusal.TheVariants.{ShortBuffer}
use Rattle.table.specs.declared.Done.{Done}
use Rattle.table.specs.declared.State.{State}
use Rattle.table.specs.Answer.{number, value, done}
use Rattle.yavdocsil.specs.Words.{state_words, value_limit, state_from, answer_word}
use Rattle.yavdocsil.specs.Called.{is_state, answer_to, leaves}
use Rattle.yavdocsil.proofs.AnswerWords.{word-success, word_number}

-- too few words
module _ (words : List ℕ) (h : length words < state_words) where
  pub short-answer : (call : State → Answer) (r : ℕ) → r ≡ answer_word (Err ShortBuffer) → r ≡ answer_to words call
  unfolding answer_to
  short-answer call r e = rw (lt-leb state_words (length words) h) e

  pub short-leaves : {A : Type 0} (call : State → A) (buffer : A) → buffer ≡ leaves words call buffer
  unfolding leaves
  short-leaves call buffer = rw (lt-leb state_words (length words) h)

  -- no success
  pub short-refused {ℓ} : {X : Type ℓ} (r : ℕ) → r ≡ answer_word (Err ShortBuffer) → r < value_limit → X
  unfolding answer_word
  short-refused r e l = absurd (omega (arith, e))

  pub short-no-state {ℓ} : {X : Type ℓ} → is_state words ≡ true → X
  short-no-state e = absurd (omega (arith, h, leb→le state_words (length words) (to-T e)))

-- enough words
module _ (words : List ℕ) (h : state_words ≤ length words) (s : State) (e : s ≡ state_from words) where
  pub called-answer : (call : State → Answer) (r : ℕ) (a : Answer) → r ≡ answer_word a → a ≡ call s → r ≡ answer_to words call
  unfolding answer_to
  called-answer call r a f g = rw (le-leb state_words (length words) h) (f ∙ ap answer_word (g ∙ ap call e))

  pub called-leaves : {A : Type 0} (call : State → A) (after buffer : A) → after ≡ call s → after ≡ leaves words call buffer
  unfolding leaves
  called-leaves call after buffer g = rw (le-leb state_words (length words) h) (g ∙ ap call e)

-- what is owed of a success is owed of the answer and the words that it is read off
pub carried : (s t : State) → s ≡ t → (o : Outcome) (p : Done) → Ok p ≡ o → (D : State → Done → Type 0) → IfOk o (D s) → D t p
carried s t e o p q D owed = subst (λ (u : State). D u p) e (IfOk-at_ok (D s) (sym q) owed)

-- the same of a call that leaves the state
pub carried-answer : (s t : State) → s ≡ t → (a : Answer) (r : ℕ) → r ≡ answer_word a → r < value_limit → (D : State → Type 0)
    → (done a ≡ true → D s) → D t
carried-answer s t e a r w h D owed = subst D e (owed (word-success a r w h))

-- the same of what is owed of the answer's number
pub carried-number : (s t : State) → s ≡ t → (a : Answer) (r x : ℕ) → r ≡ answer_word a → value a < value_limit → (Ready : State → Bool)
    (D : State → Type 0) → (Ready s ≡ true → (number a ≡ x) ↔ D s) → Ready t ≡ true → (r / value_limit ≡ x) ↔ D t
carried-number s t e a r x w h Ready D owed =
    subst (λ (u : State). Ready u ≡ true → (r / value_limit ≡ x) ↔ D u) e
    (subst (λ (k : ℕ). Ready s ≡ true → (k ≡ x) ↔ D s) (sym (word_number a r w h)) owed)
