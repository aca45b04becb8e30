-- The loop's invariant of `text::held::put_cells`: the first i cells are written.
-- Assumes nothing.
use Rattle.text.specs.Text.{cell_line, in_turn}
use Rattle.text.specs.Written.{Written}
use Rattle.text.proofs.held.put_cells.Given as goal

abbrev pub invariant-loop-i : goal.invariant-loop-i
invariant-loop-i l = Written l.initial.out l.out l.at l.next (in_turn (cell_line l.cells) l.i)
