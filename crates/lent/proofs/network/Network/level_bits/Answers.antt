use native.Mathlib.Omega.{arith}
use lib.ListN.{length-take}
use Rattle.lists.specs.Bits.{bit}
use Rattle.lists.proofs.Bits.Packed.{packed_lt}
use Rattle.diagram.specs.Orders.Order.{row_under}
use Rattle.diagram.proofs.Orders.Order.{order-at}
use Rattle.table.specs.State.{order_of}
use Rattle.lent.proofs.Tables.Gathered.{bit-fits}
use Rattle.lent.proofs.network.Network.level_bits.Goals as goal

pub variable_bit-requires : goal.variable_bit-requires
variable_bit-requires c =
    let w = c.args.self.now in
    let p = c.loop-p.p in
    let few = length-take w.state.n w.state.order in
    omega (arith, c.loop-p-test.true, few, order-at w.state.n (order_of w.state) w.evaluable.followable.ordered p (omega (arith, c.loop-p-test.true, few)))

-- whichever variable's bit it is
pub overflow_add-bits : goal.overflow_add-bits
overflow_add-bits c =
    let w = c.args.self.now in
    let s = w.state in
    let l = c.loop-p in
    let below = packed_lt l.p (row_under s.n (order_of s) c.args.row) in
    omega (
      arith,
      bit-fits l.bits l.p c.variable_bit.result (bit s.n _ c.args.row) (omega (arith, l.invariant, below))
          (omega (arith, w.evaluable.followable.levelled.few, c.loop-p-test.true, length-take s.n s.order)) c.variable_bit.ensures,
    )
