-- `canonical::reduced::repeated` meets its contract: none of the nodes before node j is the same as node i.
-- Assumes nothing.
use mathlib.Core.Path.{◌≡◌}
use mathlib.Core.Bool.{false}
use Rattle.lists.specs.Lists.{has}
use Rattle.diagram.specs.Networks.Diagram.{same_node}
use Rattle.lent.specs.Lent.{lent_node}
use Rattle.canonical.specs.Inner.Reduced.{lent_nodes}
use Rattle.canonical.proofs.reduced.repeated.Given as goal

abbrev pub invariant-loop-j : goal.invariant-loop-j
invariant-loop-j l = has same_node (lent_node l.cells l.i) (lent_nodes l.cells l.j) ≡ false
