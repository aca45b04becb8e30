-- `lent::cells::Counted::nodes_good` meets its contract: the counted cells by their numbers are the nodes.
-- Assumes nothing.
use Rattle.std.proofs.lemmas.Iterator.{YieldsList-from_range}
use Rattle.std.proofs.lemmas.Iterator.Search.{all_from_yields_List}
use mathlib.Core.Bool.{true}
use mathlib.Core.Path.{refl, sym, ◌∙◌}
use native.Mathlib.Omega.{arith}
use borrow.Author.Rules.{rules}
use borrow.Author.Tests.{tests}
use Rattle.diagram.specs.Networks.Diagram.{node_good}
use Rattle.lent.specs.Lent.{number_in, lent_node, lent_cells}
use Rattle.lent.proofs.Nodes.{all-nodes}
use Rattle.lent.proofs.Walked.{range-walked}
use Rattle.lent.proofs.cells.Counted.nodes_good.Goals as goal

pub returns : goal.returns
returns c =
    let w = c.args.self.now in
    let D = lent_cells w.count w.cells.now in
    all_from_yields_List (λ i. node_good true c.args.n D (lent_node w.cells.now i)) _ _ c.all.result c.all.ensures.ran
    (YieldsList-from_range 0 w.count w.count refl (omega arith)) (λ i b q k. search (rules, tests))
    ∙ range-walked (λ i. node_good true c.args.n D (lent_node w.cells.now i)) w.count
    ∙ sym (all-nodes w.count (number_in w.cells.now) (node_good true c.args.n D))
