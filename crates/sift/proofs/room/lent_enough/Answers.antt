-- `sift::room::lent_enough` meets its contract. Each answer by its test.
-- Assumes nothing.
use borrow.Author.Tests.{lt-leb, le-leb}
use Rattle.table.specs.Calls.{plane_size}
use Rattle.fill.specs.Work.{work_size}
use Rattle.sift.proofs.room.lent_enough.Goals as goal

pub returns-then-values-lt-PLANE : goal.returns-then-values-lt-PLANE
unfolding plane_size work_size
returns-then-values-lt-PLANE c =
    rw (lt-leb plane_size c.args.values c.if-values-lt-PLANE.true)

pub returns-then-care-lt-PLANE : goal.returns-then-care-lt-PLANE
unfolding plane_size work_size
returns-then-care-lt-PLANE c =
    let a = c.args in
    rw (le-leb plane_size a.values c.if-values-lt-PLANE.false, lt-leb plane_size a.care c.if-care-lt-PLANE.true)

pub returns : goal.returns
unfolding plane_size work_size
returns c =
    let a = c.args in
    rw (le-leb plane_size a.values c.if-values-lt-PLANE.false, le-leb plane_size a.care c.if-care-lt-PLANE.false)
