-- What an outcome says by its answer: of a call that changes the state, done or refused.
-- Assumes nothing.
use Rattle.std.specs.Prelude.{Result, Ok, Err, IfOk, is_ok}
use Rattle.std.proofs.lemmas.Result.{IfOk-at_ok}
use mathlib.Core.Path.{◌≡◌, refl, sym, ap}
use mathlib.Core.Bool.{true, true≢false}
use Rattle.table.specs.declared.State.{State}
use Rattle.table.specs.declared.Done.{Done}
use Rattle.table.specs.Answer.{Answer, Outcome, done, outcome_of, answer_of, state_after}

-- the answer of an outcome, and what it says where it is done

pub outcome-answer : (a : Answer) (s : State) → answer_of (outcome_of a s) ≡ a
outcome-answer (Ok v) s = refl
outcome-answer (Err r) s = refl

pub answered-ok : (o : Outcome) → done (answer_of o) ≡ is_ok o
answered-ok (Ok d) = refl
answered-ok (Err r) = refl

pub outcome-ok : (a : Answer) (s : State) → is_ok (outcome_of a s) ≡ done a
outcome-ok (Ok v) s = refl
outcome-ok (Err r) s = refl

pub outcome-state : (a : Answer) (before s : State) → done a ≡ true → state_after before (outcome_of a s) ≡ s
outcome-state (Ok v) before s d = refl
outcome-state (Err r) before s d = absurd (true≢false (sym d))

pub outcome-done : (a : Answer) (s : State) (r : Done) → outcome_of a s ≡ Ok r → (a ≡ Ok r.value) × (r.state ≡ s)
outcome-done (Ok v) s r e =
    let q : record { value = v; state = s } ≡ r = IfOk-at_ok (λ x. record { value = v; state = s } ≡ x) e refl in
    (ap (λ (x : Done). Ok x.value) q, sym (ap (λ (x : Done). x.state) q))
outcome-done (Err f) s r e = absurd (true≢false (sym (ap is_ok e)))

-- what holds of every success holds where there is one
pub if-success : {A E : Type 0} (o : Result A E) (P : A → Type 0) → ((x : A) → o ≡ Ok x → P x) → IfOk o P
if-success (Ok x) P f = f x refl
if-success (Err r) P f = tt
