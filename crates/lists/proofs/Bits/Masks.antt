-- Remainders and bits of a number by shifts and masks.
-- Assumes nothing.
use mathlib.Core.Path.{◌≡◌, sym, ap, ◌∙◌}
use Prim.Native.Nat.{ℕ, suc, ◌*◌, ◌-◌, ◌/◌, ◌%◌, ◌^◌, ◌<◌}
use native.Mathlib.Omega.{arith}
use lib.Bits.{bit_and, and_mask, mask_lt}
use Rattle.lists.specs.Bits.{digit, bit}
use Rattle.lists.proofs.Bits.Digits.{digit-eqb, one_shifted}

-- the remainder by 2ⁿ by a mask
pub row-masked : (n x : ℕ) → n < 64 → bit_and x (1 * 2 ^ n % 2 ^ 64 - 1) ≡ x % 2 ^ n
row-masked n x h = ap (λ (k : ℕ). bit_and x (k - 1)) (one_shifted n h) ∙ and_mask x n

-- the bit of a row's variable by a shift and a mask
pub bit_masked : (n p s : ℕ) → bit_and (s / 2 ^ (n - 1 - p)) 1 ≡ digit (bit n p s)
unfolding bit
bit_masked n p s =
    let e : n - 1 - p ≡ n - suc p = omega arith in
    and_mask (s / 2 ^ (n - 1 - p)) 1 ∙ ap (λ k. s / 2 ^ k % 2) e ∙ sym (digit-eqb (s / 2 ^ (n - suc p) % 2) (omega arith))
