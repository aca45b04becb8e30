-- An answer by its variant: a success with its value, or a refusal with its number. A new refusal is a line of `refused`; every other law
-- about answers follows. And an answer before another.
-- Assumes nothing.
use Rattle.std.specs.Prelude.{Result, Ok, Err, is_ok}
use Rattle.std.proofs.lemmas.Result.{IfOk-at_ok}
use mathlib.Core.Path.{◌≡◌, refl, sym, ap, ◌∙◌}
use mathlib.Core.Bool.{true, false, true≢false}
use mathlib.Core.Logic.{◌⊎◌, inl, inr, ⊎_elim}
use Prim.Native.Nat.{ℕ, ◌<◌}
use native.Mathlib.Omega.{arith}
use Rattle.table.specs.declared.Refusal.{Refusal}
use Rattle.table.specs.declared.Refusal.TheVariants.{BadLength, BadCheck, BadKind, BadInputs, BadOutputs, BadOrder}
use Rattle.table.specs.declared.Refusal.TheVariants.{BadContent, NoRow, NoSuch, ShortBuffer, NoTable, NoNetwork, TooSmall}
use Rattle.table.specs.declared.Refusal.TheVariants.{BadCells, ShortAnswers, NotCanonical, TooManyRecords, ShortGains}
use Rattle.table.specs.Answer.{Answer, number, value, done, unless_refused}

-- a refusal, whose number has one or two digits and whose value is 0 but for 23
record Refused (a : Answer) : Type 0 where
  numbered : 0 < number a
  few : number a < 100
  plain : ((w : ℕ) → a ≡ Err (TooSmall w) → ⊥) → value a ≡ 0

refused : (r : Refusal) → Refused (Err r)
refused BadLength = record { numbered = omega arith; few = omega arith; plain = λ _. refl }
refused BadCheck = record { numbered = omega arith; few = omega arith; plain = λ _. refl }
refused BadKind = record { numbered = omega arith; few = omega arith; plain = λ _. refl }
refused BadInputs = record { numbered = omega arith; few = omega arith; plain = λ _. refl }
refused BadOutputs = record { numbered = omega arith; few = omega arith; plain = λ _. refl }
refused BadOrder = record { numbered = omega arith; few = omega arith; plain = λ _. refl }
refused BadContent = record { numbered = omega arith; few = omega arith; plain = λ _. refl }
refused NoRow = record { numbered = omega arith; few = omega arith; plain = λ _. refl }
refused NoSuch = record { numbered = omega arith; few = omega arith; plain = λ _. refl }
refused ShortBuffer = record { numbered = omega arith; few = omega arith; plain = λ _. refl }
refused NoTable = record { numbered = omega arith; few = omega arith; plain = λ _. refl }
refused NoNetwork = record { numbered = omega arith; few = omega arith; plain = λ _. refl }
refused (TooSmall w) = record { numbered = omega arith; few = omega arith; plain = λ h. absurd (h w refl) }
refused BadCells = record { numbered = omega arith; few = omega arith; plain = λ _. refl }
refused ShortAnswers = record { numbered = omega arith; few = omega arith; plain = λ _. refl }
refused NotCanonical = record { numbered = omega arith; few = omega arith; plain = λ _. refl }
refused TooManyRecords = record { numbered = omega arith; few = omega arith; plain = λ _. refl }
refused ShortGains = record { numbered = omega arith; few = omega arith; plain = λ _. refl }

by-variant : (a : Answer) → (Ok (value a) ≡ a) ⊎ Refused a
by-variant (Ok v) = inl refl
by-variant (Err r) = inr (refused r)

pub number-few : (a : Answer) → number a < 100
number-few a = ⊎_elim (λ e. omega (arith, sym (ap number e))) (λ r. r.few) (by-variant a)

-- an answer with the number 0 is a success with its value
pub done-value : (a : Answer) → number a ≡ 0 → Ok (value a) ≡ a
done-value a e = ⊎_elim (λ d. d) (λ r. absurd (omega (arith, r.numbered))) (by-variant a)

-- an answer that is no success
pub is-other : (a : Answer) → ((v : ℕ) → a ≡ Ok v → ⊥) → false ≡ done a
is-other (Ok v) o = absurd (o v refl)
is-other (Err r) o = refl

-- a success is no refusal
pub never_other {ℓ} : {X : Type ℓ} (a : Answer) (v : ℕ) (r : Refusal) → a ≡ Ok v → a ≡ Err r → X
never_other a v r e k = absurd (true≢false (sym (ap is_ok e) ∙ ap is_ok k))

-- a refusal comes before what follows, a success lets it follow
pub refused-first : {A : Type 0} (a rest : Result A Refusal) → is_ok a ≡ false → unless_refused a rest ≡ a
refused-first (Ok v) rest d = absurd (true≢false d)
refused-first (Err r) rest d = refl

pub done-first : {A B : Type 0} (a : Result A Refusal) (rest : Result B Refusal) → is_ok a ≡ true → unless_refused a rest ≡ rest
done-first (Ok v) rest d = refl
done-first (Err r) rest d = absurd (true≢false (sym d))

-- where what follows is no refusal, the refusal is the first's, and a success comes behind one
pub refusal-first : {A B : Type 0} (a : Result A Refusal) (x : B) (r : Refusal) → unless_refused a (Ok x) ≡ Err r → a ≡ Err r
refusal-first (Ok v) x r e = absurd (true≢false (ap is_ok e))
refusal-first {A} (Err q) x r e = ap (λ y. unless_refused {B = A} y (Err q)) e

pub success-first : {A B : Type 0} (a : Result A Refusal) (x y : B) → unless_refused a (Ok x) ≡ Ok y → (is_ok a ≡ true) × (x ≡ y)
success-first (Ok v) x y e = (refl, IfOk-at_ok (λ z. x ≡ z) e refl)
success-first (Err q) x y e = absurd (true≢false (sym (ap is_ok e)))
