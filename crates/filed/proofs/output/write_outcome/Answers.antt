-- `filed::output::write_outcome` meets its contract.
-- Assumes nothing.
use Rattle.filed.proofs.FiledCases.{filed-unbuilt, filed-built}
use Rattle.filed.proofs.output.write_outcome.Goals as goal

pub returns-in-Err : goal.returns-in-Err
returns-in-Err c =
    let a = c.args in
    let all = filed-unbuilt a.outcome a.roots.now a.cells.now a.work.now a.out.now c.in-Err.refused c.in-Err.is c.refusal.ensures in
    record { text = all.0; work = all.1 }

pub returns-in-Ok : goal.returns-in-Ok
returns-in-Ok c =
    let a = c.args in
    let all = filed-built a.outcome a.roots.now a.cells.now a.work.now a.out.now _ c.in-Ok.built c.in-Ok.is
    c.write_held.ensures.text c.write_held.ensures.work in
    record { text = all.0; work = all.1 }
