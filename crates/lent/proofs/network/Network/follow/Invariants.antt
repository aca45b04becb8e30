-- `lent::network::Network::follow` meets its contract: r stays the diagram's own, and what the row gives at the root is what it gives at r,
-- inverted where `inverted` says.
-- The levels left at r fall.
-- Assumes nothing.
use mathlib.Core.Path.{◌≡◌}
use mathlib.Core.Bool.{true}
use lib.Dec.{T}
use Rattle.lists.specs.Bits.{flip}
use Rattle.diagram.specs.Networks.Diagram.{refers, gives}
use Rattle.lent.specs.Inner.Cells.{level_bit}
use Rattle.lent.specs.Lent.{lent_cells}
use Rattle.lent.proofs.Following.{left}
use Rattle.lent.proofs.network.Network.follow.Given as goal

abbrev pub invariant-loop-r : goal.invariant-loop-r
invariant-loop-r l =
    let D = lent_cells l.self.state.count l.self.cells.now in
    let a = level_bit l.bits in
    let n = l.self.state.n in
    record {
      own : T (refers true D l.r);
      kept : gives true D a n l.root ≡ flip l.inverted (gives true D a n l.r);
    }

abbrev pub decreases-loop-r : goal.decreases-loop-r
decreases-loop-r l = left l.self.state.n (lent_cells l.self.state.count l.self.cells.now) l.r
