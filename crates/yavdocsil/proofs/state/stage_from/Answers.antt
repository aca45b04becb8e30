-- `yavdocsil::state::stage_from` meets its contract, an arm a case.
-- Assumes nothing.
use Rattle.yavdocsil.proofs.state.stage_from.Goals as goal

pub returns-in-1 : goal.returns-in-1
returns-in-1 c =
    rw c.in-1.is

pub returns-in-2 : goal.returns-in-2
returns-in-2 c =
    rw c.in-2.is
