-- `table::file::blocks_answer` meets its contract. The loop's invariant: the answer is that of the blocks from block k on.
-- Assumes nothing.
use mathlib.Core.Path.{◌≡◌}
use Prim.Native.Nat.{suc, ◌*◌, ◌-◌, ◌≤◌}
use Rattle.table.specs.File.{blocks_answer}
use Rattle.table.proofs.file.blocks_answer.Given as goal

abbrev pub invariant-loop-k : goal.invariant-loop-k
invariant-loop-k l = (1 ≤ l.k) × (blocks_answer l.bits l.blocks l.file 1 (2 * l.blocks) ≡ blocks_answer l.bits l.blocks l.file l.k (suc (2 * l.blocks) - l.k))
