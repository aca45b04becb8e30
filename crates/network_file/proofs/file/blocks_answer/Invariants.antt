-- `network_file::file::blocks_answer` meets its contract. The loop's invariant: the answer is that of the blocks from block k on.
-- Assumes nothing.
use mathlib.Core.Path.{◌≡◌}
use Prim.Native.Nat.{suc, ◌-◌, ◌≤◌}
use Rattle.table.specs.Answer.{first_refusal}
use Rattle.network_file.specs.File.{cells_block}
use Rattle.network_file.proofs.file.blocks_answer.Given as goal

abbrev pub invariant-loop-k : goal.invariant-loop-k
invariant-loop-k l = (1 ≤ l.k)
    × (first_refusal (cells_block l.count l.file) 1 l.blocks ≡ first_refusal (cells_block l.count l.file) l.k (suc l.blocks - l.k))
