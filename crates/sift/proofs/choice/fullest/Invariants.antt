-- `sift::choice::fullest` meets its contract. The invariant: the lead is that of the unsifted variables from v on. The measure is v.
-- Assumes nothing.
use mathlib.Core.Path.{◌≡◌}
use mathlib.Core.Bool.{false, not}
use Prim.Native.Nat.{◌≤◌}
use lib.ListN.{get_or, take, drop}
use Rattle.lists.specs.Lists.{keep, up_to}
use Rattle.sift.specs.Inner.Choice.{nodes_at}
use Rattle.sift.proofs.Passing.LeadingVariable.{leading}
use Rattle.sift.proofs.choice.fullest.Given as goal

abbrev pub invariant-loop-v : goal.invariant-loop-v
invariant-loop-v l = (l.v ≤ l.n)
    × (l.lead ≡ leading (nodes_at l.counts (take l.n l.order))
    (keep (λ w. not (get_or l.sifted w false)) (drop l.v (up_to l.n))))

abbrev pub decreases-loop-v : goal.decreases-loop-v
decreases-loop-v l = l.v
