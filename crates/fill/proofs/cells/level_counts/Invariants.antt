-- `fill::cells::level_counts` meets its contract. The loop's invariant: the levels before p are counted, and the links of level p begin at
-- `at`.
-- Assumes nothing.
use Rattle.std.proofs.Common.{◌+◌, ◌*◌}
use Rattle.fill.specs.Work.{links_at}
use Rattle.fill.proofs.Counting.CountedCells.{Counting}
use Rattle.fill.proofs.cells.level_counts.Given as goal

abbrev pub invariant-loop-p : goal.invariant-loop-p
invariant-loop-p l = Counting l.work (links_at + 2 * l.m) l.levels l.p l.at l.counts
