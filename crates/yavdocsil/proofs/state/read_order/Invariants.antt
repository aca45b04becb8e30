-- `yavdocsil::state::read_order` meets its contract. The loop's invariant: the entries below p are the words', the others zero.
-- Assumes nothing.
use mathlib.Core.Path.{◌≡◌}
use mathlib.Core.List.{◌++◌}
use Prim.Native.Nat.{◌-◌, ◌≤◌}
use lib.ListN.{take, drop, replicate}
use Rattle.diagram.specs.Networks.Bound.{most_variables}
use Rattle.yavdocsil.specs.Words.{order_at}
use Rattle.yavdocsil.proofs.state.read_order.Given as goal

abbrev pub invariant-loop-p : goal.invariant-loop-p
invariant-loop-p l = (l.p ≤ most_variables) × (l.order ≡ take l.p (drop order_at l.words) ++ drop l.p (replicate most_variables 0))
