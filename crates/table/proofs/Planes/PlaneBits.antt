-- A plane of packed bytes: each bit of the stream can be read off it.
-- Assumes nothing.
use mathlib.Core.Path.{◌≡◌, ap, ◌∙◌}
use mathlib.Core.Bool.{Bool}
use mathlib.Core.List.{List}
use Prim.Native.Nat.{ℕ, ◌+◌, ◌*◌, ◌/◌, ◌%◌, ◌^◌, ◌<◌}
use native.Mathlib.Omega.{arith}
use lib.Dec.{eqb}
use Rattle.lists.specs.Bits.{packed}
use Rattle.lists.specs.Written.{over}
use Rattle.lists.proofs.Bits.Packed.{packed-bit}
use Rattle.lists.proofs.Written.Over.{get_d_over}
use Rattle.block.specs.Bits.{stream_bit}
use Rattle.table.specs.Calls.{plane_size}

pub packed-plane : (f : ℕ → Bool) (plane : List ℕ) (x : ℕ) → x < 8 * plane_size
    → stream_bit (over (λ i. packed 8 (λ b. f (8 * i + b))) plane_size plane) x ≡ f x
unfolding stream_bit
packed-plane f plane x h =
    let e : 8 * (x / 8) + x % 8 ≡ x = omega arith in
    ap (λ (y : ℕ). eqb (y / 2 ^ (x % 8) % 2) 1) (get_d_over (λ i. packed 8 (λ b. f (8 * i + b))) plane_size plane (x / 8) 0 (omega arith))
    ∙ packed-bit 8 (λ b. f (8 * (x / 8) + b)) (x % 8) (omega arith)
    ∙ ap f e
