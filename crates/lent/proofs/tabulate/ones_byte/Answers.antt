-- `lent::tabulate::ones_byte` meets its contract: the ones that are left, 8 at most, are the byte's lowest bits.
-- Assumes nothing.
use native.Mathlib.Omega.{arith}
use Rattle.table.proofs.Planes.PlaneSize.{plane-size}
use Rattle.lent.proofs.Tables.Tabulating.{ones-under}
use Rattle.lent.proofs.tabulate.ones_byte.Goals as goal

pub overflow_mul-i : goal.overflow_mul-i
overflow_mul-i c =
    omega (arith, plane-size)

pub returns : goal.returns
returns c =
    ones-under c.args.end c.args.i c.min-left.result (omega arith)
