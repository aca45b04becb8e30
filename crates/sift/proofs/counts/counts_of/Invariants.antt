-- `sift::counts::counts_of` meets its contract. The invariant: the first l counts are read. The measure is how many are left.
-- Assumes nothing.
use mathlib.Core.Path.{◌≡◌}
use mathlib.Core.List.{◌++◌}
use Prim.Native.Nat.{◌-◌, ◌≤◌}
use lib.ListN.{take, drop, replicate}
use Rattle.diagram.specs.Networks.Bound.{most_variables}
use Rattle.fill.specs.Calls.{counts_of}
use Rattle.sift.proofs.counts.counts_of.Given as goal

abbrev pub invariant-loop-l : goal.invariant-loop-l
invariant-loop-l l = (l.l ≤ most_variables) × (l.read ≡ take l.l (counts_of l.p l.counts) ++ drop l.l (replicate most_variables 0))
