-- `table::order::repeated` meets its contract.
-- Assumes nothing.
use Rattle.std.proofs.Common.{◌∙◌, get_or}
use native.Mathlib.Omega.{arith}
use Rattle.table.proofs.Ordering.Orders.{listed-later}
use Rattle.table.proofs.order.repeated.Goals as goal

pub returns : goal.returns
returns c =
    let a = c.args in
    c.contains.ensures.value ∙ listed-later (get_or a.order a.i 0) a.order a.n a.i (omega arith)
