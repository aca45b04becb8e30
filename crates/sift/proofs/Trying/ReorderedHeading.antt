-- The heading's rules with another order: a state in which a variable has moved keeps them.
-- Assumes nothing.
use mathlib.Core.Path.{◌≡◌, sym, ap, ◌∙◌, subst}
use mathlib.Core.Bool.{◌&&◌}
use mathlib.Core.List.{List, ◌++◌}
use Prim.Native.Nat.{ℕ, ◌<◌}
use lib.Dec.{T, leb}
use lib.ListN.{take, drop}
use lib.Seq.{take_at}
use Rattle.lists.proofs.Bools.{and_T, and_l}
use Rattle.diagram.specs.Networks.Bound.{most_variables, most_outputs}
use Rattle.diagram.specs.Orders.Order.{is_order, moved}
use Rattle.diagram.proofs.Orders.Order.{order-length}
use Rattle.diagram.proofs.Orders.Moved.{moved_order}
use Rattle.table.specs.State.{good_heading}
use Rattle.table.proofs.Held.{heading-outputs, heading-order}

module _ (n m : ℕ) (order : List ℕ) (g : T (good_heading n m order)) where
  pub heading-with : (other : List ℕ) → T (is_order n other) → T (good_heading n m other)
  unfolding good_heading
  heading-with other o =
      and_T (leb n most_variables) _ (and_l (leb n most_variables) _ g)
      (and_T (leb 1 m && leb m most_outputs) (is_order n other) (heading-outputs n m order g) o)

  pub heading-moved : (v p : ℕ) → v < n → T (good_heading n m (moved v p order))
  heading-moved v p h = heading-with (moved v p order) (moved_order n v p order (heading-order n m order g) h)

-- the first n entries of an order with what lies past them
pub take-order : (n : ℕ) (order l after : List ℕ) → T (is_order n order) → after ≡ order ++ drop n l → take n after ≡ order
take-order n order l after o e = ap (take n) e ∙ take_at order (drop n l) n (order-length n order o)

module _ (n m : ℕ) (l : List ℕ) (g : T (good_heading n m (take n l))) (v p : ℕ) (h : v < n) (after : List ℕ)
    (e : after ≡ moved v p (take n l) ++ drop n l) where
  pub take-moved : take n after ≡ moved v p (take n l)
  take-moved = take-order n (moved v p (take n l)) l after (moved_order n v p (take n l) (heading-order n m (take n l) g) h) e

  pub heading-after : T (good_heading n m (take n after))
  heading-after = subst (λ (xs : List ℕ). T (good_heading n m xs)) (sym take-moved) (heading-moved n m (take n l) g v p h)
