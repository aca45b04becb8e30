-- `lent::network::Network::outputs` meets its contract: the total is the number that what the bits give at the roots below j make.
-- Assumes nothing.
use mathlib.Core.Path.{◌≡◌}
use Rattle.lists.specs.Bits.{packed}
use Rattle.lent.specs.Inner.Cells.{level_bit}
use Rattle.lent.specs.Lent.{lent_cells}
use Rattle.lent.proofs.Answered.{given_at}
use Rattle.lent.proofs.network.Network.outputs.Given as goal

abbrev pub invariant-loop-j : goal.invariant-loop-j
invariant-loop-j l =
    let s = l.self.state in
    l.total ≡ packed l.j (given_at (lent_cells s.count l.self.cells.now) (level_bit l.bits) s.n l.self.roots.now)
