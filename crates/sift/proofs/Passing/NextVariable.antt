-- The variable that comes next, by the nodes of each level and by marks: it is a variable, and where the marks are those of the
-- variables sifted it is the one that diagram's `next` names.
-- Assumes nothing.
use mathlib.Core.Path.{◌≡◌, refl, ap, ◌∙◌}
use mathlib.Core.Bool.{Bool, true, false, not}
use mathlib.Core.List.{List, [], ◌∷◌}
use Prim.Native.Nat.{ℕ, ◌≤◌, ◌<◌}
use native.Mathlib.Omega.{arith}
use lib.Dec.{T, eqb}
use lib.ListN.{get_or}
use Rattle.lists.specs.Most.{most_of, most}
use Rattle.lists.specs.Lists.{has, index, up_to}
use Rattle.lists.proofs.Bools.{or_r}
use Rattle.lists.proofs.Lists.Membership.{eqb-equality, has_here, keep-has}
use Rattle.lists.proofs.Numbers.Compared.{up_to-lt}
use Rattle.lists.proofs.Numbers.Most.{most-has}
use Rattle.diagram.specs.Networks.Bound.{most_variables}
use Rattle.diagram.specs.Networks.Network.{counts}
use Rattle.diagram.specs.Orders.Order.{is_order}
use Rattle.diagram.specs.Table.{Table, filled}
use Rattle.diagram.specs.Orders.Sift.{nodes_of}
use Rattle.diagram.proofs.Orders.Order.{index_below}
use Rattle.fill.proofs.Counting.PerLevel.{per-level-at}
use Rattle.sift.specs.Inner.Choice.{nodes_at, unmarked, next_of}
use Rattle.sift.specs.Inner.Counts.{counts_under}

-- two numberings that agree on a list have the same first with the most

most_of-cong : (f g : ℕ → ℕ) (v : ℕ) (vs : List ℕ) → f v ≡ g v → ((w : ℕ) → T (has eqb w vs) → f w ≡ g w) → most_of f v vs ≡ most_of g v vs
most_of-cong f g v [] p e = refl
most_of-cong f g v (x ∷ vs) p e =
    let q : f x ≡ g x = e x (has_here eqb eqb-equality x vs) in
    let r = most_of-cong f g x vs q (λ w h. e w (or_r (eqb w x) (has eqb w vs) h)) in
    let s = most_of-cong f g v vs p (λ w h. e w (or_r (eqb w x) (has eqb w vs) h)) in
    rw (p, q, r, s)

most-cong : (f g : ℕ → ℕ) (vs : List ℕ) → ((w : ℕ) → T (has eqb w vs) → f w ≡ g w) → most f vs ≡ most g vs
most-cong f g [] e = refl
most-cong f g (v ∷ vs) e =
    most_of-cong f g v vs (e v (has_here eqb eqb-equality v vs)) (λ w h. e w (or_r (eqb w v) (has eqb w vs) h))

most-below : (f : ℕ → ℕ) (n : ℕ) (vs : List ℕ) → ((w : ℕ) → T (has eqb w vs) → w < n) → 0 < n → most f vs < n
most-below f n [] b h = h
most-below f n (v ∷ vs) b h = b (most f (v ∷ vs)) (most-has f (v ∷ vs) (omega arith))

unmarked-below : (n : ℕ) (sifted : List Bool) (w : ℕ) → T (has eqb w (unmarked n sifted)) → w < n
unmarked-below n sifted w h = up_to-lt w n (keep-has eqb eqb-equality (λ v. not (get_or sifted v false)) w (up_to n) h).0

pub next-below : (t : Table) (order : List ℕ) (sifted : List Bool) → 0 < t.n → next_of t order sifted < t.n
unfolding next_of
next-below t order sifted h = most-below (nodes_of t order) t.n (unmarked t.n sifted) (unmarked-below t.n sifted) h

-- by the nodes of each level
module _ (t : Table) (order : List ℕ) (sifted : List Bool) (o : T (is_order t.n order)) (k : t.n ≤ most_variables) where
  nodes-ten : (v : ℕ) → v < t.n → nodes_at (counts_under t order) order v ≡ nodes_of t order v
  unfolding nodes_of counts_under
  nodes-ten v h =
      per-level-at (counts true t.n (filled true t order)) (index eqb v order)
      (omega (arith, index_below t.n order o v h))

  pub next-counted : (cs : List ℕ) → cs ≡ counts_under t order
      → most (nodes_at cs order) (unmarked t.n sifted) ≡ next_of t order sifted
  unfolding next_of
  next-counted cs e =
      ap (λ (l : List ℕ). most (nodes_at l order) (unmarked t.n sifted)) e
      ∙ most-cong (nodes_at (counts_under t order) order) (nodes_of t order) (unmarked t.n sifted)
      (λ w h. nodes-ten w (unmarked-below t.n sifted w h))
