-- `swapping::swap::swap_cells` meets its contract: a refusal by the checks, after which 32 alone clears, or what the swap itself leaves.
-- Assumes nothing.
use mathlib.Core.Path.{◌≡◌, sym, ap, ◌∙◌}
use mathlib.Core.Bool.{false}
use Rattle.lists.proofs.Bools.{to-T}
use Rattle.std.specs.Prelude.{Ok}
use Rattle.table.specs.Answer.{done}
use Rattle.network.proofs.Building.BuildCases.{never}
use Rattle.swapping.specs.Swap.{swap_checks}
use Rattle.swapping.proofs.Cases.{refused-case}
use Rattle.swapping.proofs.Kept.{swapped-left, fit-left}
use Rattle.swapping.proofs.swap.swap_cells.Goals as goal

pub swap_checked-requires : goal.swap_checked-requires
swap_checked-requires c =
    to-T (sym (ap done c.swap_checks.ensures) ∙ ap done c.in_default.is)

pub returns-in_default-clause-swapped : goal.returns-in_default-clause-swapped
returns-in_default-clause-swapped c =
    let a = c.args in
    let y = c.swap_checked in
    swapped-left a.state a.p a.work.now a.roots.now a.cells.now y.result y.ensures.outcome _ _ y.ensures.roots y.ensures.cells

pub returns-in_default-clause-fit : goal.returns-in_default-clause-fit
returns-in_default-clause-fit c =
    let a = c.args in
    let y = c.swap_checked in
    fit-left a.state a.p a.work.now a.roots.now a.cells.now y.result y.ensures.outcome

pub returns : goal.returns
returns c =
    let a = c.args in
    let refused : done (swap_checks a.state a.p a.work.now a.roots.now a.cells.now (Ok 0)) ≡ false = sym (ap done c.swap_checks.ensures)
    ∙ ap done c.in-Err.is in
    let all = refused-case a.state a.p a.work.now a.roots.now a.cells.now refused c.in-Err.refusal (sym c.in-Err.is ∙ c.swap_checks.ensures)
    c.clear_after.new.work c.clear_after.ensures in record {
      outcome = all.0;
      roots = all.1.0;
      cells = all.1.1.0;
      work = all.1.1.1;
      swapped = tt;
      fit = never refused;
    }
