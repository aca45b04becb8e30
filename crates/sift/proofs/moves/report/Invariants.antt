-- `sift::moves::report` meets its contract. The invariant: the list is written over as far as the rows of the variables before v, and the
-- work buffer is as the count left it, zero. The measure is the number of variables left.
-- Assumes nothing.
use mathlib.Core.Path.{◌≡◌}
use Prim.Native.Nat.{◌*◌, ◌-◌, ◌≤◌}
use lib.ListN.{length}
use Rattle.lists.specs.Written.{over}
use Rattle.diagram.specs.Orders.Moves.{gain_at}
use Rattle.table.specs.State.{order_of}
use Rattle.fill.specs.Calls.{held_table}
use Rattle.sift.proofs.moves.report.Given as goal

abbrev pub invariant-loop-v : goal.invariant-loop-v
invariant-loop-v l = (l.v ≤ l.fn.state.n)
    × ((l.gains ≡ over (gain_at (held_table l.fn.state l.fn.values l.fn.care) (order_of l.fn.state)) (l.fn.state.n * l.v) l.initial.gains)
    × ((length l.gains ≡ length l.initial.gains) × (l.work ≡ l.initial.work)))
