-- `fill::clear` meets its contract. Assumes nothing.
use mathlib.Core.Path.{sym}
use Rattle.fill.proofs.Buffers.Sizes.{work-size, sizes}
use Rattle.fill.proofs.Buffers.HeldParts.{zero-start}
use Rattle.fill.proofs.Calls.Answers.{cleared-short, cleared-zero}
use Rattle.fill.proofs.clear.Goals as goal

pub returns-then-work-lt-WORK : goal.returns-then-work-lt-WORK
returns-then-work-lt-WORK c =
    cleared-short c.args.work.now (omega (sizes, c.if-work-lt-WORK.true))

pub returns : goal.returns
returns c =
    let z = c.zero in
    let w = c.args.work.now in
    cleared-zero w z.new.l (omega (sizes, c.if-work-lt-WORK.false)) (zero-start 32768 w z.new.l (sym work-size) z.ensures)
