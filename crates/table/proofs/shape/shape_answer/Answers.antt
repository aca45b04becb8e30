-- `table::shape::shape_answer` meets its contract: the order read is the heading's.
-- Assumes nothing.
use Rattle.std.proofs.Common.{arith}
use Rattle.std.proofs.lemmas.Grind.{common_steps}
use Rattle.table.specs.File.{shape_answer}
use Rattle.table.proofs.Files.Heading.{order_read}
use Rattle.table.proofs.shape.shape_answer.Goals as goal

pub returns-then-not-is_order : goal.returns-then-not-is_order
unfolding shape_answer
returns-then-not-is_order c =
    let n = c.byte-n in
    let o = order_read c.args.file.now n.result n.ensures.0 c.is_order.result c.read_order.result c.if-n-gt-VARIABLES.false
    c.read_order.ensures c.is_order.ensures in
    grind (arith, common_steps, o)

pub returns : goal.returns
unfolding shape_answer
returns c =
    let n = c.byte-n in
    let o = order_read c.args.file.now n.result n.ensures.0 c.is_order.result c.read_order.result c.if-n-gt-VARIABLES.false
    c.read_order.ensures c.is_order.ensures in
    grind (arith, common_steps, o)
