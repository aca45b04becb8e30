-- `table::order::is_order` meets its contract. The loop's invariant: the whole order is fine exactly if what is left of it from
-- entry i on is. Assumes nothing.
use mathlib.Core.Path.{◌≡◌}
use Rattle.lists.proofs.Written.Rest.{rest}
use Rattle.table.proofs.Ordering.Orders.{fine}
use Rattle.table.proofs.order.is_order.Given as goal

abbrev pub invariant-loop-i : goal.invariant-loop-i
invariant-loop-i l = fine l.n (rest l.order l.n 0) ≡ fine l.n (rest l.order l.n l.i)
