-- Where a state and lent bytes hold a table under an order, the table in the lent bytes is alike: its network, its filled rows, its cost
-- and its sifts under the state's order are the table's under that order.
-- Assumes nothing.
use mathlib.Core.Path.{◌≡◌, sym, ap, ◌∙◌}
use mathlib.Core.Bool.{true}
use mathlib.Core.List.{List}
use Prim.Native.Nat.{ℕ}
use Rattle.diagram.specs.Table.{Table, filled_bit, network_of, cost}
use Rattle.diagram.specs.Orders.Sift.{sift}
use Rattle.diagram.proofs.Filling.FreeRows.{Alike, cost-alike, network-alike, bit-alike, sift-alike}
use Rattle.table.specs.declared.State.{State}
use Rattle.table.specs.State.{order_of}
use Rattle.fill.specs.Calls.{held_table}
use Rattle.starred.specs.Shown.{Holds}

module _ {t : Table} {order : List ℕ} {s : State} {values care : List ℕ} (h : Holds t order s values care) where
  alike : Alike t (held_table s values care)
  alike = record {
    inputs = sym h.inputs;
    outputs = sym h.outputs;
    cared = λ j r p q. rw h.inputs (sym (h.cared j r p q));
    valued = λ j r p q c. rw h.inputs (sym (h.valued j r p q c));
  }

  pub held-cost : cost (held_table s values care) (order_of s) ≡ cost t order
  held-cost = ap (cost (held_table s values care)) h.ordered ∙ sym (cost-alike t (held_table s values care) alike order)

  pub held-network : network_of true (held_table s values care) (order_of s) ≡ network_of true t order
  held-network =
      ap (network_of true (held_table s values care)) h.ordered ∙ sym (network-alike t (held_table s values care) alike true order)

  pub held-bit : (j r : ℕ) → filled_bit true (held_table s values care) (order_of s) j r ≡ filled_bit true t order j r
  held-bit j r =
      ap (λ (o : List ℕ). filled_bit true (held_table s values care) o j r) h.ordered
      ∙ sym (bit-alike t (held_table s values care) alike true order j r)

  pub held-sift : (v : ℕ) → sift (held_table s values care) v (order_of s) ≡ sift t v order
  held-sift v = ap (sift (held_table s values care) v) h.ordered ∙ sym (sift-alike t (held_table s values care) alike v order)

  pub held-sift-cost : (v : ℕ) → cost (held_table s values care) (sift (held_table s values care) v (order_of s)) ≡ cost t (sift t v order)
  held-sift-cost v =
      ap (cost (held_table s values care)) (held-sift v) ∙ sym (cost-alike t (held_table s values care) alike (sift t v order))
