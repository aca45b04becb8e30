-- The check of a block: what a byte adds to it, and what it is of the sum.
-- Assumes nothing.
use mathlib.Core.Path.{◌≡◌, ap, ◌∙◌}
use mathlib.Core.List.{List}
use Prim.Native.Nat.{ℕ, suc, ◌+◌, ◌*◌, ◌%◌, ◌≤◌, ◌<◌}
use native.Mathlib.Nat.{mul-le-mul}
use native.Mathlib.Omega.{arith}
use Rattle.lists.specs.Sums.{sum_below}
use Rattle.block.specs.Block.{check_at, byte, check_of}

-- what one byte adds to a check is at most 510 × 255
pub weight-most : (i x : ℕ) → i < check_at → x < 256 → (i + 1) * x ≤ check_at * 255
weight-most i x h k = mul-le-mul {n₂ = check_at} {m₂ = 255} (omega arith) (omega arith)

-- the sum over the bytes before it, modulo 65,521
pub check-is : (file : List ℕ) (k i total : ℕ) → i ≡ check_at → total ≡ sum_below (λ j. suc j * byte file k j) i
    → total % 65521 ≡ check_of file k
unfolding check_of
check-is file k i total d e = ap (λ (x : ℕ). x % 65521) (e ∙ ap (sum_below (λ j. suc j * byte file k j)) d)
