-- `canonical::held::test_held` meets its contract: each return by the tests that led there.
-- Assumes nothing.
use mathlib.Core.Path.{◌≡◌, sym, ◌∙◌}
use mathlib.Core.Bool.{true}
use borrow.Author.Tests.{not-true, not-false}
use Rattle.table.specs.State.{stage_of, is_network}
use Rattle.lent.specs.Evaluate.{good_cells}
use Rattle.lent.proofs.Answered.{followable, rooted}
use Rattle.canonical.proofs.Structured.{own-edges, own-roots}
use Rattle.canonical.proofs.Answered.{answer-short, answer-no-network, answer-bad-cells, answer-many, answer-not, answer-done}
use Rattle.canonical.proofs.held.test_held.Goals as goal
use Rattle.canonical.proofs.held.test_held.Goals.{Else-not-good_cells, Else-not-holds_network}

-- past the test of 22
held : (c : Else-not-holds_network) → is_network (stage_of c.args.state) ≡ true
held c = let h = c.holds_network in sym h.ensures ∙ not-false h.result c.if-not-holds_network.false-raw

-- past the test of 24
good : (c : Else-not-good_cells)
    → let a = c.args in
    good_cells a.state a.roots.now a.cells.now ≡ true
good c = let g = c.good_cells in sym g.ensures ∙ not-false g.result c.if-not-good_cells.false-raw

pub returns-then-roots-lt-ROOTS : goal.returns-then-roots-lt-ROOTS
returns-then-roots-lt-ROOTS c =
    let a = c.args in
    answer-short a.state a.roots.now a.cells.now c.if-roots-lt-ROOTS.true

pub returns-then-not-holds_network : goal.returns-then-not-holds_network
returns-then-not-holds_network c =
    let a = c.args in
    let h = c.holds_network in
    answer-no-network a.state a.roots.now a.cells.now c.if-roots-lt-ROOTS.false
    (sym h.ensures ∙ not-true h.result c.if-not-holds_network.true-raw)

pub returns-then-not-good_cells : goal.returns-then-not-good_cells
returns-then-not-good_cells c =
    let a = c.args in
    let g = c.good_cells in
    answer-bad-cells a.state a.roots.now a.cells.now c.if-roots-lt-ROOTS.false
    (held (goal.at.returns-then-not-good_cells c).Else-not-holds_network)
    (sym g.ensures ∙ not-true g.result c.if-not-good_cells.true-raw)

pub returns-then-count-gt-NODES : goal.returns-then-count-gt-NODES
returns-then-count-gt-NODES c =
    let a = c.args in
    answer-many a.state a.roots.now a.cells.now c.if-roots-lt-ROOTS.false
    (held (goal.at.returns-then-count-gt-NODES c).Else-not-holds_network)
    (good (goal.at.returns-then-count-gt-NODES c).Else-not-good_cells) c.if-count-gt-NODES.true

pub is_structured-requires : goal.is_structured-requires
is_structured-requires c =
    let a = c.args in
    let s = a.state in
    let f = (followable a.state a.roots.now a.cells.now c.if-roots-lt-ROOTS.false
    (held (goal.at.is_structured-requires c).Else-not-holds_network)
    (good (goal.at.is_structured-requires c).Else-not-good_cells)).levelled in
    let r = rooted a.state a.roots.now a.cells.now c.if-roots-lt-ROOTS.false
    (held (goal.at.is_structured-requires c).Else-not-holds_network)
    (good (goal.at.is_structured-requires c).Else-not-good_cells) in
    record {
      n_le_most_variables = (f.few, c.if-count-gt-NODES.false, own-edges s.count a.cells.now s.n f.good, r.fit);
      count_in_bounds = f.held;
      by_index = own-roots s.count a.cells.now a.roots.now s.m r.fit r.own;
    }

pub returns-then-not-is_structured : goal.returns-then-not-is_structured
returns-then-not-is_structured c =
    let t = c.is_structured in
    let a = c.args in
    answer-not a.state a.roots.now a.cells.now c.if-roots-lt-ROOTS.false
    (held (goal.at.returns-then-not-is_structured c).Else-not-holds_network)
    (good (goal.at.returns-then-not-is_structured c).Else-not-good_cells)
    (sym t.ensures ∙ not-true t.result c.if-not-is_structured.true-raw)

pub returns : goal.returns
returns c =
    let t = c.is_structured in
    let a = c.args in
    answer-done a.state a.roots.now a.cells.now c.if-roots-lt-ROOTS.false
    (held (goal.at.returns c).Else-not-holds_network) (good (goal.at.returns c).Else-not-good_cells)
    (sym t.ensures ∙ not-false t.result c.if-not-is_structured.false-raw)
