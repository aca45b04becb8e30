-- The digits of a number, written in turn.
-- Assumes nothing.
use mathlib.Core.Path.{◌≡◌, sym, ap}
use mathlib.Core.List.{List, [], ◌∷◌, ◌++◌}
use Prim.Native.Nat.{ℕ, zero, suc, ◌+◌, ◌-◌, ◌/◌, ◌%◌, ◌≤◌, ◌<◌}
use native.Mathlib.Omega.{arith}
use borrow.Author.Tests.{le-ltb}
use Rattle.text.specs.Text.{space, digits, decimal, spaced}
use Rattle.text.specs.Written.{Written}
use Rattle.text.proofs.Writing.{written_then, written_as}

pub digits_more : (f x : ℕ) → 10 ≤ x → 0 < f → digits f x ≡ digits (f - 1) (x / 10) ++ ((48 + x % 10) ∷ [])
digits_more zero x h k = elim k [ ]
digits_more (suc f) x h k =
    let e : f ≡ suc f - 1 = omega arith in
    rw (le-ltb x 10 h) (ap (λ (q : ℕ). digits q (x / 10) ++ ((48 + x % 10) ∷ [])) e)

pub written-digits : {l m n : List ℕ} {i j k : ℕ} (f x : ℕ) → 10 ≤ x → (f ≡ 0 → ⊥) → Written l m i j (digits (f - 1) (x / 10))
    → Written m n j k ((48 + x % 10) ∷ []) → Written l n i k (digits f x)
written-digits f x h p u v = written_as (sym (digits_more f x h (omega (arith, p)))) (written_then u v)

pub written-spaced : {l m n : List ℕ} {i j k : ℕ} (x : ℕ) → Written l m i j space → Written m n j k (digits 19 x)
    → Written l n i k (spaced x)
unfolding spaced decimal
written-spaced x u v = written_then u v
