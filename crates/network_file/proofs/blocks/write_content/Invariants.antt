-- `network_file::blocks::write_content` meets its contract. The loop's invariant: the block is written as far as byte i, and its bytes so far
-- are in the sum.
-- Assumes nothing.
use mathlib.Core.Path.{◌≡◌}
use Prim.Native.Nat.{suc, ◌+◌, ◌*◌, ◌≤◌}
use Rattle.lists.specs.Sums.{sum_below}
use Rattle.lists.specs.Written.{over}
use Rattle.block.specs.Block.{block_size, check_at}
use Rattle.network_file.specs.Write.{block_content, file_byte}
use Rattle.network_file.proofs.blocks.write_content.Given as goal

abbrev pub invariant-loop-i : goal.invariant-loop-i
invariant-loop-i l = (l.i ≤ check_at)
    × (l.total ≡ sum_below (λ j. suc j * block_content l.state l.roots l.cells l.k j) l.i)
    × (l.total ≤ check_at * 255 * l.i)
    × (l.file ≡ over (file_byte l.state l.roots l.cells) (block_size * l.k + l.i) l.initial.file)
