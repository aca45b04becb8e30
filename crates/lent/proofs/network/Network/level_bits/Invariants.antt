-- `lent::network::Network::level_bits` meets its contract: the bits so far are the number that those of the levels below p make.
-- Assumes nothing.
use mathlib.Core.Path.{◌≡◌}
use Rattle.lists.specs.Bits.{packed}
use Rattle.diagram.specs.Orders.Order.{row_under}
use Rattle.table.specs.State.{order_of}
use Rattle.lent.proofs.network.Network.level_bits.Given as goal

abbrev pub invariant-loop-p : goal.invariant-loop-p
invariant-loop-p l = l.bits ≡ packed l.p (row_under l.self.state.n (order_of l.self.state) l.row)
