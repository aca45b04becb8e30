-- `network_file::content::order_byte` meets its contract: an entry of an order is below n, so it fits a byte.
-- Assumes nothing.
use native.Mathlib.Omega.{arith}
use Rattle.lent.proofs.Following.{variable-below}
use Rattle.network_file.proofs.content.order_byte.Goals as goal

pub overflow_cast-result : goal.overflow_cast-result
overflow_cast-result c =
    let a = c.args in
    omega (arith, variable-below a.n a.order c.requires.1.0 a.p c.requires.1.1)
