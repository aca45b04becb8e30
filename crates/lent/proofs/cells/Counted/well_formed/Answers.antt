-- `lent::cells::Counted::well_formed` meets its contract: the roots, then the cells, of the lent diagram by its numbers.
-- Assumes nothing.
use mathlib.Core.Path.{◌≡◌, sym, ap, ◌∙◌}
use mathlib.Core.Bool.{true}
use native.Mathlib.Omega.{arith}
use lib.ListN.{length}
use Rattle.diagram.specs.Networks.Diagram.{well_formed}
use Rattle.lent.specs.Lent.{diagram_by, number_in, lent_diagram}
use Rattle.lent.proofs.Nodes.{lent-diagram}
use Rattle.lent.proofs.Tested.{roots-tested, formed-not, formed-rest}
use Rattle.lent.proofs.cells.Counted.well_formed.Goals as goal
use Rattle.lent.proofs.cells.Counted.well_formed.Goals.{Start}

by-numbers : (c : Start)
    → let w = c.args.self.now in
    let roots = c.args.roots.now in
    well_formed true c.args.n (length roots) (lent_diagram w.count (length roots) w.cells.now roots)
    ≡ well_formed true c.args.n (length roots) (diagram_by w.count (length roots) (number_in w.cells.now) (number_in roots))
by-numbers c =
    let w = c.args.self.now in
    let roots = c.args.roots.now in
    ap (well_formed true c.args.n (length roots)) (lent-diagram w.count (length roots) w.cells.now roots (omega arith))

pub returns-then-roots_good : goal.returns-then-roots_good
returns-then-roots_good c =
    let w = c.args.self.now in
    let roots = c.args.roots.now in
    c.nodes_good.ensures
    ∙ sym
    (by-numbers (goal.at.returns-then-roots_good c).Start
    ∙ formed-rest w.count (number_in w.cells.now) (number_in roots) (length roots) c.args.n
    (sym (c.roots_good.ensures ∙ roots-tested w.count w.cells.now roots) ∙ c.if-roots_good.true))

pub returns-else-roots_good : goal.returns-else-roots_good
returns-else-roots_good c =
    let w = c.args.self.now in
    let roots = c.args.roots.now in
    c.if-roots_good.false
    ∙ sym
    (by-numbers (goal.at.returns-else-roots_good c).Start
    ∙ formed-not w.count (number_in w.cells.now) (number_in roots) (length roots) c.args.n
    (sym (c.roots_good.ensures ∙ roots-tested w.count w.cells.now roots) ∙ c.if-roots_good.false))
