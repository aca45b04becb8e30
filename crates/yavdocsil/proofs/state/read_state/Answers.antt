-- `yavdocsil::state::read_state` meets its contract: each field is read from its word.
-- Assumes nothing.
use mathlib.Core.Path.{ap₂}
use mathlib.Core.List.{List}
use Prim.Native.Nat.{ℕ}
use lib.ListN.{get_or}
use Rattle.table.specs.declared.Stage.{Stage}
use Rattle.table.specs.declared.State.{State}
use Rattle.yavdocsil.specs.Words.{state_from}
use Rattle.yavdocsil.proofs.state.read_state.Goals as goal

pub returns : goal.returns
unfolding state_from
returns c =
    let o = c.read_order-order in
    let g = c.stage_from-stage in
    let words = c.args.words.now in
    let with-parts : List ℕ → Stage → State =
    λ order stage. record { n = get_or words 0 0; m = get_or words 1 0; order = order; count = get_or words 2 0; stage = stage } in
    ap₂ with-parts o.ensures g.ensures
