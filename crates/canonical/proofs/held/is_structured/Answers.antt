-- `canonical::held::is_structured` meets its contract: the nodes one by one, then the numbering.
-- Assumes nothing.
use mathlib.Core.Path.{sym, ◌∙◌}
use borrow.Author.Tests.{not-true, not-false}
use Rattle.canonical.proofs.Structured.{structured-not, structured-rest}
use Rattle.canonical.proofs.held.is_structured.Goals as goal

pub returns-then-not-reduced : goal.returns-then-not-reduced
returns-then-not-reduced c =
    let a = c.args in
    let g = c.reduced in
    sym (structured-not a.count a.cells.now a.n a.roots.now a.m
    (sym g.ensures ∙ not-true g.result c.if-not-reduced.true-raw))

pub returns : goal.returns
returns c =
    let a = c.args in
    let g = c.reduced in
    c.numbers_rise.ensures
    ∙ sym (structured-rest a.count a.cells.now a.n a.roots.now a.m
    (sym g.ensures ∙ not-false g.result c.if-not-reduced.false-raw))
