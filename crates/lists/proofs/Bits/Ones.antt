-- The lowest bits of a number, and how many ones are among them.
-- Assumes nothing.
use mathlib.Core.Path.{◌≡◌, refl, ap, ap₂, ◌∙◌}
use Prim.Native.Nat.{ℕ, zero, suc, ◌+◌, ◌-◌, ◌/◌, ◌%◌, ◌^◌, ◌<◌}
use native.Mathlib.Nat.{add_comm, mod-lt, mod-one}
use native.Mathlib.Omega.{arith}
use lib.Count.{ones, ones_in, ones_cat}
use lib.Pow.{pow_pos, mod-pow-add, field, mod-mod-pow}
use Rattle.lists.specs.Sums.{sum_below}

-- a number's bits below k are those of its remainder by 2 ^ k
pub low_bit : (n k i : ℕ) → i < k → n % 2 ^ k / 2 ^ i % 2 ≡ n / 2 ^ i % 2
low_bit n k i h =
    let e : k ≡ k - suc i + 1 + i = omega arith in
    ap (λ (j : ℕ). n % 2 ^ j / 2 ^ i % 2) e ∙ ap (λ (y : ℕ). y % 2) (field n (k - suc i + 1) i) ∙ mod-mod-pow (n / 2 ^ i) (k - suc i) 1

pub ones_bit : (b : ℕ) → b < 2 → ones b ≡ b
unfolding ones ones_in
ones_bit zero h = refl
ones_bit (suc zero) h = refl
ones_bit (suc (suc b)) h = absurd (omega arith)

-- the ones among the lowest k bits: the highest of them is counted apart from the others
pub ones-sum : (n k : ℕ) → ones (n % 2 ^ k) ≡ sum_below (λ i. n / 2 ^ i % 2) k
ones-sum n zero = ap ones (mod-one n) ∙ ones_bit 0 (omega arith)
ones-sum n (suc k) =
    let e : suc k ≡ 1 + k = omega arith in
    ap (λ (j : ℕ). ones (n % 2 ^ j)) e ∙ ap ones (mod-pow-add n 1 k) ∙ ones_cat k (n / 2 ^ k % 2) (n % 2 ^ k) (mod-lt n (pow_pos k))
    ∙ ap₂ (λ (x y : ℕ). x + y) (ones_bit (n / 2 ^ k % 2) (omega arith)) (ones-sum n k)
    ∙ add_comm (n / 2 ^ k % 2) (sum_below (λ i. n / 2 ^ i % 2) k)
