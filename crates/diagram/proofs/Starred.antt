-- The starred tables hold: one test over the whole list, computed.
-- Assumes nothing.
use lib.Dec.{T}
use Rattle.lists.specs.Lists.{all}
use Rattle.lists.specs.Bits.{bit}
use Rattle.diagram.specs.Filling.Fill.{fill}
use Rattle.diagram.specs.Networks.Network.{classes, refer, nodes, network, counts, count}
use Rattle.diagram.specs.Orders.Order.{behind, moved}
use Rattle.diagram.specs.Table.{filled, filled_bit, network_of, cost}
use Rattle.diagram.specs.Orders.Sift.{preferred, chosen, sift}
use Rattle.diagram.specs.Starred.{holds, starred}

pub starred-hold : T (all holds starred)
unfolding bit fill classes refer nodes network counts count behind moved filled filled_bit network_of cost preferred chosen sift holds starred
starred-hold = tt
