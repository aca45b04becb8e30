-- `rowlog::counts::count_rows` meets its contract. Assumes nothing.
use Rattle.std.proofs.Common.{refl, length, get_or, arith}
use Rattle.rowlog.proofs.Counting.{seen-room, row_within, counted-at, counted_next, counted_none}
use Rattle.rowlog.proofs.counts.count_rows.Goals as goal

pub loop-row-init : goal.loop-row-init
loop-row-init c = counted_none c.args.counts.now

pub overflow_add-counts : goal.overflow_add-counts
overflow_add-counts c =
    let l = c.loop-row in
    let a = c.args in
    let j = c.loop-row-test.true in
    let x = get_or a.rows.now l.row-index 0 in
    let k = row_within a.rows.now a.counts.now l.row-index j (length a.counts.now) c.requires.rows_within in
    omega (
      arith,
      counted-at a.rows.now a.counts.now l.row-index j l.counts l.invariant k x k,
      seen-room a.rows.now a.counts.now l.row-index j,
      c.requires.counts_fit l.row-index j,
    )

pub loop-row-preserved : goal.loop-row-preserved
loop-row-preserved c =
    let l = c.loop-row in
    let a = c.args in
    let j = c.loop-row-test.true in
    let k = row_within a.rows.now a.counts.now l.row-index j (length a.counts.now) c.requires.rows_within in
    counted_next a.rows.now a.counts.now l.row-index j l.counts l.invariant k _ refl
