-- What a swap leaves is an order still.
-- Assumes nothing.
use mathlib.Core.Path.{sym, subst}
use mathlib.Core.Bool.{not}
use mathlib.Core.List.{List}
use Prim.Native.Nat.{ℕ, suc, ◌<◌}
use lib.Dec.{T}
use lib.ListN.{take}
use Rattle.diagram.specs.Orders.Order.{is_order}
use Rattle.table.specs.declared.State.{State}
use Rattle.table.specs.State.{order_of, stage_of, is_nothing, exchanged}
use Rattle.table.proofs.Held.{ordered}
use Rattle.table.proofs.Ordering.Exchanged.{exchanged-order, take-exchanged}

module _ (s : State) (p : ℕ) (held : T (not (is_nothing (stage_of s)))) (h : suc p < s.n) where
  pub swapped-order : T (is_order s.n (take s.n (exchanged p s.order)))
  swapped-order =
      subst (λ (l : List ℕ). T (is_order s.n l)) (sym (take-exchanged s.n p s.order h))
      (exchanged-order s.n p (order_of s) (ordered s held) h)
