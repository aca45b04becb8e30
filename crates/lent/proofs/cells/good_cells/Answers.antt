-- `lent::cells::good_cells` meets its contract: enough cells, enough roots, then well-formed.
-- Assumes nothing.
use mathlib.Core.Path.{sym, ◌∙◌}
use Rattle.lent.proofs.Answered.{few-cells, few-roots, first-roots}
use Rattle.lent.proofs.cells.good_cells.Goals as goal
use Rattle.lent.proofs.cells.good_cells.Goals.{then-cells-count-via-then-cells-count, then-cells-count-via-else-cells-count+then-roots-state}

pub returns-then-cells-count : goal.returns-then-cells-count
returns-then-cells-count c =
    let a = c.args in
    elim c.then-cells-count.branch [
      | then-cells-count-via-then-cells-count w ↦ sym (few-cells a.state a.roots.now a.cells.now w.if-cells-count.true)
      | then-cells-count-via-else-cells-count+then-roots-state w ↦ sym (few-roots a.state a.roots.now a.cells.now w.if-roots-state.true)
    ]

pub returns : goal.returns
returns c =
    let a = c.args in
    c.well_formed-2.ensures ∙ first-roots a.state a.roots.now a.cells.now c.if-cells-count.false c.if-roots-state.false
