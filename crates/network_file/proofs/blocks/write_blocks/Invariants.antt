-- `network_file::blocks::write_blocks` meets its contract. The loop's invariant: the blocks before block k are written.
-- Assumes nothing.
use mathlib.Core.Path.{◌≡◌}
use Prim.Native.Nat.{suc, ◌*◌, ◌≤◌}
use Rattle.lists.specs.Written.{over}
use Rattle.block.specs.Block.{block_size}
use Rattle.network_file.specs.Write.{file_byte}
use Rattle.network_file.proofs.blocks.write_blocks.Given as goal

abbrev pub invariant-loop-k : goal.invariant-loop-k
invariant-loop-k l = (l.k ≤ suc l.blocks) × (l.file ≡ over (file_byte l.state l.roots l.cells) (block_size * l.k) l.initial.file)
