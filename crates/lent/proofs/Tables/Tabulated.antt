-- The bytes of a table's values or care, read as a stream again: each bit is the row's.
-- Assumes nothing.
use mathlib.Core.Path.{◌≡◌, ◌∙◌}
use mathlib.Core.Bool.{Bool}
use mathlib.Core.List.{List}
use Prim.Native.Nat.{ℕ, suc, ◌+◌, ◌*◌, ◌^◌, ◌≤◌, ◌<◌}
use native.Mathlib.Nat.{mul-le-mul_right}
use native.Mathlib.Omega.{arith}
use borrow.Author.Tests.{lt-ltb}
use lib.Pow.{high, low}
use Rattle.lists.specs.Written.{over}
use Rattle.diagram.specs.Filling.Fill.{Row}
use Rattle.diagram.specs.Table.{Table}
use Rattle.block.specs.Bits.{stream_bit}
use Rattle.table.specs.Stream.{plane_byte}
use Rattle.table.specs.Calls.{plane_size}
use Rattle.table.proofs.Planes.PlaneBits.{packed-plane}
use Rattle.lent.specs.Inner.Tabulate.{table_bit}

module _ (field : Row → Bool) (t : Table) where
  stream-bit : (plane : List ℕ) (x : ℕ) → x < 8 * plane_size → stream_bit (over (plane_byte field t) plane_size plane) x ≡ table_bit field t x
  unfolding plane_byte table_bit
  stream-bit plane x h = packed-plane (table_bit field t) plane x h

  module _ (j r : ℕ) (known : j < t.m) (inside : r < 2 ^ t.n) where
    in-stream : j * 2 ^ t.n + r < t.m * 2 ^ t.n
    in-stream = omega (arith, mul-le-mul_right {m = suc j} {n = t.m} (2 ^ t.n) known)

    row-bit : table_bit field t (j * 2 ^ t.n + r) ≡ field (t.row j r)
    unfolding table_bit
    row-bit = rw (lt-ltb (j * 2 ^ t.n + r) (t.m * 2 ^ t.n) in-stream, high j t.n inside, low j t.n inside)

-- each row's bit can be read off the plane
pub plane-bit : (field : Row → Bool) (t : Table) (plane : List ℕ) (j r : ℕ) → j < t.m → r < 2 ^ t.n → t.m * 2 ^ t.n ≤ 8 * plane_size
    → stream_bit (over (plane_byte field t) plane_size plane) (j * 2 ^ t.n + r) ≡ field (t.row j r)
plane-bit field t plane j r h k room =
    stream-bit field t plane (j * 2 ^ t.n + r) (omega (arith, in-stream field t j r h k)) ∙ row-bit field t j r h k
