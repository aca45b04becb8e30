-- Sifting one variable: it leaves an order, and none beside it is cheaper.
-- Assumes nothing.
use mathlib.Core.Path.{◌≡◌, sym, ap, ◌∙◌, subst}
use mathlib.Core.List.{List}
use Prim.Native.Nat.{ℕ, suc, ◌≤◌, ◌<◌}
use native.Mathlib.Nat.{le_trans}
use lib.Dec.{T, eqb}
use Rattle.lists.specs.Lists.{index}
use Rattle.diagram.specs.Orders.Order.{is_order, moved}
use Rattle.diagram.specs.Table.{Table, cost}
use Rattle.diagram.specs.Orders.Sift.{fewest, chosen, sift}
use Rattle.diagram.specs.Demands.{Beside, Least, SiftedLeast}
use Rattle.diagram.proofs.Demands.{least-cost}
use Rattle.diagram.proofs.Orders.Order.{order-distinct, every-variable, index_below}
use Rattle.diagram.proofs.Orders.Moved.{moved_order, moved-self, beside-from, beside-moved}
use Rattle.diagram.proofs.Orders.Fewest.{chosen-least, chosen-stays, chosen-same, chosen-cong}

module _ (t : Table) (v : ℕ) (order : List ℕ) where
  pub sift-order : T (is_order t.n order) → v < t.n → T (is_order t.n (sift t v order))
  unfolding sift
  sift-order o h = moved_order t.n v (chosen t v order t.n) order o h

  pub sift-cost : (p : ℕ) → p < t.n → cost t (sift t v order) ≤ cost t (moved v p order)
  unfolding sift
  sift-cost p h = chosen-least t v order t.n p h

  -- the order is as it was where the variable's level is among the fewest
  pub sift-stays : T (is_order t.n order) → v < t.n → ((p : ℕ) → p < t.n → cost t order ≤ cost t (moved v p order))
      → sift t v order ≡ order
  unfolding sift
  sift-stays o h least =
      let self = moved-self v order (order-distinct t.n order o) (every-variable t.n order o v h) in
      ap (λ (p : ℕ). moved v p order)
      (chosen-stays t v order t.n (index_below t.n order o v h)
      (λ p i. subst (λ (xs : List ℕ). cost t xs ≤ cost t (moved v p order)) (sym self) (least p i)))
      ∙ self

  -- and always as cheap as with the smallest of the fewest, as it was left before document 02's 2.3
  pub sift-same : (k : ℕ) → t.n ≡ suc k
      → cost t (sift t v order) ≡ cost t (moved v (fewest (λ p. cost t (moved v p order)) k) order)
  unfolding sift
  sift-same k e = ap (λ (n : ℕ). cost t (moved v (chosen t v order n) order)) e ∙ chosen-same t v order k

  pub sift-beside : {other : List ℕ} → Beside t.n v (sift t v order) other → Beside t.n v order other
  unfolding sift
  sift-beside b = beside-from v (chosen t v order t.n) order b

  -- an order beside the one that is left is the first with v moved to one of the n levels, which were all tried
  pub sift-least : v < t.n → (other : List ℕ) → Beside t.n v (sift t v order) other → cost t (sift t v order) ≤ cost t other
  sift-least h other b =
      let m = beside-moved t.n v order other h (sift-beside b) in
      subst (λ (xs : List ℕ). cost t (sift t v order) ≤ cost t xs) (sym m.0) (sift-cost (index eqb v other) m.1)

-- sifted: whatever diagram is taken for another level of v, it has at least as many nodes as the cost of the order left
pub sifted : (t : Table) (v : ℕ) (order : List ℕ) → v < t.n → SiftedLeast t v (sift t v order) (cost t (sift t v order))
unfolding Least SiftedLeast
sifted t v order h other b D s = le_trans (sift-least t v order h other b) (least-cost t other b.valid D s)

-- it goes by the number of variables and by the costs alone
pub sift-cong : (t u : Table) → t.n ≡ u.n → ((order : List ℕ) → cost t order ≡ cost u order) → (v : ℕ) (order : List ℕ)
    → sift t v order ≡ sift u v order
unfolding sift
sift-cong t u e costs v order =
    ap (λ (p : ℕ). moved v p order) (chosen-cong t u costs v order t.n ∙ ap (chosen u v order) e)
