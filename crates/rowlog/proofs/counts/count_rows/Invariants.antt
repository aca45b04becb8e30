-- The loop's invariant of `rowlog::counts::count_rows`: the rows so far are counted.
-- Assumes nothing.
use Rattle.std.proofs.Common.{◌≡◌, length, take}
use Rattle.lists.specs.Written.{over}
use Rattle.rowlog.specs.Log.{seen}
use Rattle.rowlog.proofs.counts.count_rows.Given as goal

abbrev pub invariant-loop-row : goal.invariant-loop-row
invariant-loop-row l =
    l.counts ≡ over (seen (take l.row-index l.rows) l.initial.counts) (length l.initial.counts) l.initial.counts
