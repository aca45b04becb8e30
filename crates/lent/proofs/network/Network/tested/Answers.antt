-- `lent::network::Network::tested`: what the test says of the cells and roots, with a network held and no root missing.
-- Assumes nothing.
use mathlib.Core.Path.{sym, ◌∙◌}
use Rattle.lent.proofs.Answered.{evaluable}
use Rattle.lent.proofs.network.Network.tested.Goals as goal

pub invariant_of-result : goal.invariant_of-result
invariant_of-result c =
    let a = c.args in
    record { evaluable = evaluable a.state a.roots.now a.cells.now c.requires.roots_in_bounds c.requires.held (sym c.good_cells.ensures ∙ c.if-not-good_cells.false) }
