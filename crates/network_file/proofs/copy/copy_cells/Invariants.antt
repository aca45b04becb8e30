-- `network_file::copy::copy_cells` meets its contract: the numbers so far are written over those lent.
-- Assumes nothing.
use mathlib.Core.Path.{◌≡◌}
use Rattle.lists.specs.Written.{over}
use Rattle.network_file.specs.File.{cell_number}
use Rattle.network_file.proofs.copy.copy_cells.Given as goal

abbrev pub invariant-loop-x : goal.invariant-loop-x
invariant-loop-x l = l.number-items ≡ over (cell_number l.file) l.x l.initial.number-items
