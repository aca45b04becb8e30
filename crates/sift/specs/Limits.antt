-- Document 02, 2.10, of two passes that differ in the limit alone: 'a pass with a larger limit never ends with more cells than the same pass
-- with a smaller one'. What a single pass or sift owes of it is in PassNeverDearer and SiftNeverDearer.
-- Assumes nothing.
use Rattle.std.specs.Prelude.{List, ℕ, ◌≤◌}
use Rattle.table.specs.declared.State.{State}
use Rattle.table.specs.Answer.{state_after}
use Rattle.sift.specs.Calls.{order_cost, pass_outcome}

-- of any state and whatever is lent; where they are refused, both leave the order found
unfoldable pub LargerPass : Type 0
LargerPass =
    (s : State) (smaller larger : ℕ) (values care work : List ℕ) → smaller ≤ larger
    → order_cost (state_after s (pass_outcome s larger values care work)) values care
    ≤ order_cost (state_after s (pass_outcome s smaller values care work)) values care
