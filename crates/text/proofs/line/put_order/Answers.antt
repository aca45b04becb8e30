-- `text::line::put_order` meets its contract. Assumes nothing.
use native.Mathlib.Omega.{arith}
use Rattle.text.proofs.Lines.{written-order}
use Rattle.text.proofs.line.put_order.Goals as goal

pub returns : goal.returns
returns c =
    written-order c.args.state c.min.result c.min.ensures (omega arith) c.put-entries.ensures c.put_entries-end.ensures c.put.ensures
