-- `rowlog::counts::has_room` meets its contract: by what is left when the sum is taken.
-- Assumes nothing.
use mathlib.Core.Path.{◌∙◌}
use borrow.Author.Tests.{lt-leb}
use Rattle.rowlog.specs.Log.{most_records}
use Rattle.rowlog.proofs.Counting.{sum-first, room-none, room-left}
use Rattle.rowlog.proofs.counts.has_room.Goals as goal

pub returns-else-sum-le-RECORDS : goal.returns-else-sum-le-RECORDS
returns-else-sum-le-RECORDS c =
    let a = c.args in
    lt-leb c.sum_of-sum.result most_records c.if-sum-le-RECORDS.false
    ∙ room-none _ c.sum_of-sum.result a.more (c.sum_of-sum.ensures ∙ sum-first a.counts.now a.end c.min.result c.min.ensures)
    c.if-sum-le-RECORDS.false

pub returns-then-sum-le-RECORDS : goal.returns-then-sum-le-RECORDS
returns-then-sum-le-RECORDS c =
    let a = c.args in
    room-left _ c.sum_of-sum.result a.more (c.sum_of-sum.ensures ∙ sum-first a.counts.now a.end c.min.result c.min.ensures)
    c.if-sum-le-RECORDS.true
