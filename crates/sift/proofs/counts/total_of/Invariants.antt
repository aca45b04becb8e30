-- `sift::counts::total_of` meets its contract. The invariant: the counts before l are added up, and the others make up the sum.
-- The measure is how many are left.
-- Assumes nothing.
use mathlib.Core.Path.{◌≡◌}
use mathlib.Core.List.{sum}
use Prim.Native.Nat.{◌+◌, ◌-◌, ◌≤◌}
use lib.ListN.{drop}
use Rattle.diagram.specs.Networks.Bound.{most_variables}
use Rattle.fill.specs.Calls.{counts_of}
use Rattle.sift.proofs.counts.total_of.Given as goal

abbrev pub invariant-loop-l : goal.invariant-loop-l
invariant-loop-l l = (l.l ≤ most_variables) × (l.total + sum ◌+◌ 0 (drop l.l (counts_of l.p l.counts)) ≡ sum ◌+◌ 0 (counts_of l.p l.counts))
