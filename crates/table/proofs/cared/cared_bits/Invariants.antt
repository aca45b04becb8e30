-- `table::cared::cared_bits` meets its contract. The loop's invariant: the total is the sum over the words passed, at most 64 for each.
-- Assumes nothing.
use Prim.Native.Nat.{ℕ, ◌*◌, ◌+◌, ◌≤◌, min}
use mathlib.Core.Path.{◌≡◌}
use Rattle.lists.specs.Bits.{digit}
use Rattle.lists.specs.Sums.{sum_below}
use Rattle.block.specs.Bits.{stream_bit}
use Rattle.table.proofs.cared.cared_bits.Given as goal

abbrev pub invariant-loop-w : goal.invariant-loop-w
invariant-loop-w l = (l.total ≡ sum_below (λ (i : ℕ). digit (stream_bit l.care i)) (min (64 * l.w) l.bits))
    × (l.total ≤ 64 * l.w) × (64 * l.w ≤ l.bits + 63)
