-- `block::block::check_of` meets its contract. The loop's invariant: the total is the sum over the bytes passed, and at most 510 × 255
-- for each. Assumes nothing.
use mathlib.Core.Path.{◌≡◌}
use Prim.Native.Nat.{suc, ◌*◌, ◌≤◌}
use Rattle.lists.specs.Sums.{sum_below}
use Rattle.block.specs.Block.{check_at, byte}
use Rattle.block.proofs.block.Block.check_of.Given as goal

abbrev pub invariant-loop-i : goal.invariant-loop-i
invariant-loop-i l = (l.total ≡ sum_below (λ j. suc j * byte l.self.file.now l.self.number j) l.i) × (l.total ≤ check_at * 255 * l.i)
