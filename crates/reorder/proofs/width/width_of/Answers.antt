-- `reorder::width::width_of` meets its contract: from three variables on a width is a power of two. Assumes nothing.
use Rattle.std.proofs.Common.{sym, ◌∙◌, arith}
use Rattle.reorder.proofs.Pack.{width_small}
use Rattle.reorder.proofs.Shifts.{width-shifted, width-met, width-past}
use Rattle.reorder.proofs.width.width_of.Goals as goal

pub returns-in-0-to-2 : goal.returns-in-0-to-2
returns-in-0-to-2 c =
    let d = c.args.d in
    sym (width-met d (omega arith) ∙ width_small d (omega arith))

pub returns-in-3-to-10 : goal.returns-in-3-to-10
returns-in-3-to-10 c =
    let d = c.args.d in
    width-shifted d (omega arith) (omega arith) ∙ sym (width-met d (omega arith))

pub returns-in_default : goal.returns-in_default
returns-in_default c = width-past c.args.d (omega arith)
