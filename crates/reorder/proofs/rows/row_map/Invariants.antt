-- `reorder::rows::row_map` meets its contract. The invariant: the map has the rows of the lowest l bits, and is otherwise zero. The order
-- is gone by then, so it holds of any order that has these shares.
-- Assumes nothing.
use Rattle.std.proofs.Common.{◌≡◌}
use Rattle.reorder.proofs.Doubled.{rows_to}
use Rattle.reorder.proofs.rows.row_map.Given as goal

abbrev pub invariant-loop-l : goal.invariant-loop-l
invariant-loop-l l = l.map ≡ rows_to l.fn.n l.fn.order l.l
