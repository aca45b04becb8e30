-- `lent::cells::Counted::roots_good` meets its contract: the diagram's own references are those up to 2 × count + 1.
-- Assumes nothing.
use Rattle.std.proofs.lemmas.Iterator.{YieldsList-from_slice}
use Rattle.std.proofs.lemmas.Iterator.Search.{all_from_yields_List}
use mathlib.Core.Bool.{true}
use mathlib.Core.Path.{◌∙◌}
use Prim.Native.Nat.{◌+◌}
use borrow.Author.Rules.{rules}
use borrow.Author.Tests.{tests}
use lib.Dec.{leb}
use Rattle.diagram.specs.Networks.Diagram.{refers}
use Rattle.lent.specs.Lent.{number_in, lent_cells}
use Rattle.lent.proofs.Tested.{refers-to}
use Rattle.lent.proofs.Walked.{all-walked}
use Rattle.lent.proofs.cells.Counted.roots_good.Goals as goal

pub returns : goal.returns
returns c =
    let w = c.args.self.now in
    all_from_yields_List (λ r. leb r (w.count + w.count + 1)) _ _ c.all.result c.all.ensures.ran (YieldsList-from_slice c.args.roots.now cc)
    (λ r b q k. search (rules, tests))
    ∙ all-walked (λ r. leb r (w.count + w.count + 1)) (refers true (lent_cells w.count w.cells.now))
    (refers-to w.count (number_in w.cells.now)) c.args.roots.now
