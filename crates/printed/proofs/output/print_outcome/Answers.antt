-- `printed::output::print_outcome` meets its contract.
-- Assumes nothing.
use Rattle.printed.proofs.Texts.OutputCases.{written-unbuilt, written-built}
use Rattle.printed.proofs.output.print_outcome.Goals as goal

pub returns-in-Err : goal.returns-in-Err
returns-in-Err c =
    let a = c.args in
    written-unbuilt a.outcome a.care.now a.roots.now a.cells.now c.in-Err.refused c.in-Err.is c.refusal.ensures

pub returns-in-Ok : goal.returns-in-Ok
returns-in-Ok c =
    let a = c.args in
    written-built a.outcome a.care.now a.roots.now a.cells.now c.in-Ok.built c.in-Ok.is c.cared_bits.result
    c.cared_bits.ensures c.network_text.ensures
