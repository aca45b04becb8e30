-- `network_file::good::nodes_good` meets its contract: cell by cell.
-- Assumes nothing.
use Rattle.std.proofs.Common.{rules, true, refl, sym, ◌∙◌, arith}
use borrow.Author.Tests.{tests}
use Rattle.std.proofs.lemmas.Iterator.{YieldsList-from_range}
use Rattle.std.proofs.lemmas.Iterator.Search.{all_from_yields_List}
use Rattle.diagram.specs.Networks.Diagram.{node_good}
use Rattle.block.proofs.Elements.{all-below}
use Rattle.lent.specs.Lent.{cells_by}
use Rattle.lent.proofs.Nodes.{all-nodes}
use Rattle.lent.proofs.Tested.{good_node}
use Rattle.network_file.specs.File.{cell_number}
use Rattle.network_file.proofs.good.nodes_good.Goals as goal

pub returns : goal.returns
returns c =
    let a = c.args in
    all_from_yields_List (good_node a.count (cell_number a.file.now) a.n) _ _ _ c.all.ensures.ran
    (YieldsList-from_range 0 a.count a.count refl (omega arith)) (λ x b q k. search (rules, tests))
    ∙ all-below (good_node a.count (cell_number a.file.now) a.n) a.count
    ∙ sym (all-nodes a.count (cell_number a.file.now) (node_good true a.n (cells_by a.count (cell_number a.file.now))))
