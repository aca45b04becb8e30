-- The difference of two natural numbers, as an integer.
-- Assumes nothing.
use mathlib.Core.Path.{◌≡◌, ◌∙◌, subst}
use mathlib.Core.Bool.{Bool, true, false, not, cond}
use Prim.Native.Nat.{ℕ, zero, suc, ◌-◌, ◌≤◌, ◌<◌}
use native.Mathlib.Omega.{arith}
use lib.Dec.{T, ltb, ltb→lt, nltb→le, le→leb}
use lib.IntN.{ℤ, pos, negsuc, neg_ℤ, ◌+ℤ◌, ◌-ℤ◌, +ℤ_comm, -ℤ-+ℤ_cancel}
use lib.Signed.{mag, ◌≤ℤ◌}

-- by which of the two is less
by_order : (X : ℤ → Type 0) (a b : ℕ) → (a < b → X (negsuc (b - suc a))) → (b ≤ a → X (pos (a - b))) → X (pos a -ℤ pos b)
by_order X a zero less more = subst (λ (n : ℕ). X (pos n)) (omega arith) (more (omega arith))
by_order X a (suc b) less more = by-test (ltb a (suc b)) (λ t. less (ltb→lt a (suc b) t)) (λ t. more (nltb→le a (suc b) t))
  where
    by-test : (c : Bool) → (T c → X (negsuc (suc b - suc a))) → (T (not c) → X (pos (a - suc b)))
        → X (cond c (negsuc (suc b - suc a)) (pos (a - suc b)))
    by-test true f g = f tt
    by-test false f g = g tt

-- it takes no more bits than the larger
pub difference-mag : (a b k : ℕ) → a < k → b < k → mag (pos a -ℤ pos b) < k
difference-mag a b k h i = by_order (λ z. mag z < k) a b (λ l. omega arith) (λ l. omega arith)

-- it rises with the first number
pub difference-le : (a c b : ℕ) → a ≤ c → (pos a -ℤ pos b) ≤ℤ (pos c -ℤ pos b)
difference-le a c b h =
    by_order (λ z. z ≤ℤ (pos c -ℤ pos b)) a b
    (λ l. by_order (λ z. negsuc (b - suc a) ≤ℤ z) c b
    (λ m. record { le = le→leb (b - suc c) (b - suc a) (omega arith) }) (λ m. record { le = tt }))
    (λ l. by_order (λ z. pos (a - b) ≤ℤ z) c b
    (λ m. absurd (omega arith)) (λ m. record { le = le→leb (a - b) (c - b) (omega arith) }))

-- and is not below minus the second
pub difference_low : (a b : ℕ) → neg_ℤ (pos b) ≤ℤ (pos a -ℤ pos b)
difference_low a zero = difference-le 0 a 0 (omega arith)
difference_low a (suc b) =
    by_order (λ z. negsuc b ≤ℤ z) a (suc b) (λ l. record { le = le→leb (suc b - suc a) b (omega arith) }) (λ l. record { le = tt })

-- what was subtracted added again
pub difference-back : (a b : ℕ) → pos b +ℤ (pos a -ℤ pos b) ≡ pos a
difference-back a b = +ℤ_comm (pos b) (pos a -ℤ pos b) ∙ -ℤ-+ℤ_cancel (pos a) (pos b)
