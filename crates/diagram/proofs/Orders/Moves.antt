-- What moving a variable would bring (document 02, 2.8): nothing where it stands, at its best what sifting it answers, never more than all
-- cells saved; and each gain bounds every diagram under the moved order.
-- Assumes nothing.
use mathlib.Core.Path.{◌≡◌, refl, sym, ap, ap₂, ◌∙◌, subst}
use mathlib.Core.List.{List}
use Prim.Native.Nat.{ℕ, ◌+◌, ◌*◌, ◌/◌, ◌%◌, ◌≤◌, ◌<◌}
use native.Mathlib.Nat.{mul-add-div, mul-add-mod_self_left, div-eq_of_lt, mod-eq_of_lt, add-zero}
use native.Mathlib.Omega.{arith}
use lib.Dec.{T, eqb, le→leb}
use lib.IntN.{ℤ, pos, neg_ℤ, ◌-ℤ◌, +ℤ_invr}
use lib.ListN.{length}
use lib.Signed.{◌≤ℤ◌}
use Rattle.lists.specs.Lists.{index}
use Rattle.lists.proofs.Numbers.Differences.{difference-le, difference_low, difference-back}
use Rattle.diagram.specs.Orders.Order.{is_order, moved}
use Rattle.diagram.specs.Table.{Table, cost}
use Rattle.diagram.specs.Orders.Sift.{chosen, sift}
use Rattle.diagram.specs.Demands.{Least}
use Rattle.diagram.specs.Orders.Moves.{gain, gain_at, Smallest, MovedLeast}
use Rattle.diagram.proofs.Demands.{least-cost}
use Rattle.diagram.proofs.Orders.Fewest.{chosen-below}
use Rattle.diagram.proofs.Orders.Order.{order-distinct, every-variable}
use Rattle.diagram.proofs.Orders.Moved.{moved_order, moved-self}
use Rattle.diagram.proofs.Orders.Sift.{sift-cost}

module _ (t : Table) (order : List ℕ) where
  -- 'entry n × input + place'
  pub gain-entry : (v p : ℕ) → p < t.n → gain_at t order (t.n * v + p) ≡ gain t order v p
  unfolding gain_at
  gain-entry v p h =
      let some : 0 < t.n = omega arith in
      ap₂ (gain t order) (mul-add-div some v p ∙ ap (λ (k : ℕ). v + k) (div-eq_of_lt h) ∙ add-zero v)
      (mul-add-mod_self_left t.n v p ∙ mod-eq_of_lt h)

  -- 'Staying in place reads exactly 0'
  pub gain-stays : T (is_order t.n order) → (v : ℕ) → v < t.n → gain t order v (index eqb v order) ≡ pos 0
  unfolding gain
  gain-stays o v h =
      ap (λ (xs : List ℕ). pos (cost t xs) -ℤ pos (cost t order))
      (moved-self v order (order-distinct t.n order o) (every-variable t.n order o v h))
      ∙ +ℤ_invr (pos (cost t order))

  -- 'The smallest entry for an input is its sift answer minus the cells now'
  pub gain-smallest : (v : ℕ) → v < t.n → Smallest t.n (gain t order v) (pos (cost t (sift t v order)) -ℤ pos (cost t order))
  unfolding gain sift
  gain-smallest v h =
      record {
        at = chosen t v order t.n;
        below = chosen-below t v order t.n (omega arith);
        there = refl;
        least = λ p i. difference-le (cost t (sift t v order)) (cost t (moved v p order)) (cost t order) (sift-cost t v order p i);
      }

  -- no move saves more than all cells
  pub gain-lowest : (v p : ℕ) → neg_ℤ (pos (cost t order)) ≤ℤ gain t order v p
  unfolding gain
  gain-lowest v p = difference_low (cost t (moved v p order)) (cost t order)

  -- demand 3: whatever diagram is taken under the moved order
  pub moved-least : T (is_order t.n order) → (v p : ℕ) → v < t.n → MovedLeast t order v p (gain t order v p)
  unfolding gain Least MovedLeast
  moved-least o v p h D s =
      let least : cost t (moved v p order) ≤ length D.nodes = least-cost t (moved v p order) (moved_order t.n v p order o h) D s in
      subst (λ (z : ℤ). z ≤ℤ pos (length D.nodes)) (sym (difference-back (cost t (moved v p order)) (cost t order)))
      (record { le = le→leb (cost t (moved v p order)) (length D.nodes) least })

-- a report goes by the number of variables and by the costs alone
pub gains-cong : (t u : Table) → t.n ≡ u.n → ((order : List ℕ) → cost t order ≡ cost u order) → (order : List ℕ) (e : ℕ)
    → gain_at t order e ≡ gain_at u order e
unfolding gain_at gain
gains-cong t u d costs order e =
    ap₂ (λ (x y : ℕ). pos x -ℤ pos y)
    (ap (λ (n : ℕ). cost t (moved (e / n) (e % n) order)) d ∙ costs (moved (e / u.n) (e % u.n) order)) (costs order)
