-- Two passes that differ in the limit alone (document 02, 2.10): the one with the larger limit never ends with more cells.
-- Assumes nothing.
use mathlib.Core.Path.{sym, subst₂}
use mathlib.Core.Bool.{not}
use mathlib.Core.List.{List}
use Prim.Native.Nat.{ℕ, ◌≤◌}
use native.Mathlib.Nat.{le_refl}
use Rattle.lists.proofs.Bools.{split, to-T}
use Rattle.diagram.specs.Table.{Table, cost}
use Rattle.diagram.specs.Orders.Limits.{LargerLimit}
use Rattle.diagram.proofs.Orders.Limits.{larger-limit}
use Rattle.table.specs.State.{order_of, stage_of, is_nothing}
use Rattle.table.proofs.Held.{ordered}
use Rattle.fill.specs.Calls.{held_table, enough}
use Rattle.sift.specs.Calls.{order_cost, pass_answer, pass_outcome}
use Rattle.sift.specs.Limits.{LargerPass}
use Rattle.sift.proofs.Passing.PassOutcome.{as_passed}

pub larger-pass : LargerPass
unfolding LargerPass LargerLimit pass_answer pass_outcome
larger-pass s smaller larger values care work h =
    let t : Table = held_table s values care in
    split (enough values care work)
    (λ e. split (not (is_nothing (stage_of s)))
    (λ g. rw (e, g)
    (subst₂ (λ (x y : List ℕ). cost t x ≤ cost t y) (sym (as_passed s larger values care work e g))
    (sym (as_passed s smaller values care work e g)) (larger-limit t smaller larger (order_of s) (ordered s (to-T g)) h)))
    (λ g. rw (e, g) (le_refl (order_cost s values care))))
    (λ e. rw e (le_refl (order_cost s values care)))
