-- `sift::order::moved_to` meets its contract. The invariant: the first i entries are those of the moved order.
-- The measure is what is left of n.
-- Assumes nothing.
use Prim.Native.Nat.{◌≤◌, ◌-◌}
use mathlib.Core.Path.{◌≡◌}
use mathlib.Core.List.{◌++◌}
use lib.ListN.{take, drop}
use Rattle.diagram.specs.Orders.Order.{moved}
use Rattle.sift.proofs.order.moved_to.Given as goal

abbrev pub invariant-loop-i : goal.invariant-loop-i
invariant-loop-i l = (l.i ≤ l.n) × (l.after ≡ take l.i (moved l.v l.p (take l.n l.order)) ++ drop l.i l.order)
