-- Demands 2 and 3 of document 01 for every drawn table and order: kept, whole, right, as drawn, least, fits.
-- Assumes nothing.
use mathlib.Core.Path.{◌≡◌, sym, ap, ◌∙◌, subst}
use mathlib.Core.Bool.{Bool, true, false, ◌&&◌}
use mathlib.Core.List.{List, map}
use mathlib.Core.Logic.{◌↔◌}
use Prim.Native.Nat.{ℕ, ◌+◌, ◌≤◌, ◌<◌, ◌^◌}
use native.Mathlib.Nat.{le_refl}
use native.Mathlib.Omega.{arith}
use borrow.Author.Tests.{ltb-true, ltb-false}
use lib.Dec.{T, eqb, eqb→eq, ltb}
use lib.ListN.{length, get_or}
use Rattle.lists.specs.Lists.{up_to, index}
use Rattle.lists.specs.Bits.{row_number}
use Rattle.lists.proofs.Bools.{split}
use Rattle.lists.proofs.Lists.Membership.{all-at}
use Rattle.lists.proofs.Numbers.UpTo.{length-map-up_to, get_or-map-up_to}
use Rattle.diagram.specs.Tree.{Tree, at, full, inverted}
use Rattle.diagram.specs.Filling.Fill.{Row}
use Rattle.diagram.specs.Networks.Diagram.{Diagram, refers, well_formed}
use Rattle.diagram.specs.Networks.Network.{network, count}
use Rattle.diagram.specs.Orders.Order.{is_order, row_under}
use Rattle.diagram.specs.Table.{Table, FullyCared, reordered, filled, filled_bit, network_of, cost, Computes, Solves}
use Rattle.diagram.specs.Demands.{AsDrawn, Least, NoneFits}
use Rattle.diagram.proofs.Tree.{tree-ext, at_above, inverted-false}
use Rattle.diagram.proofs.Filling.Fill.{fill-length}
use Rattle.diagram.proofs.Filling.Kept.{kept_at}
use Rattle.diagram.proofs.Networks.Reference.{from}
use Rattle.diagram.proofs.Networks.Right.{network-formed, network-gives}
use Rattle.diagram.proofs.Networks.Function.{function, Good, function-gives}
use Rattle.diagram.proofs.Networks.Evaluate.{formed-length, formed-roots, formed-nodes, from-top}
use Rattle.diagram.proofs.Networks.Least.{Reaches, every-at, least-trees}
use Rattle.diagram.proofs.Orders.Order.{row_of, at-reordered}

module _ (inv : Bool) (t : Table) (order : List ℕ) where
  pub filled-length : length (filled inv t order) ≡ t.m
  unfolding filled
  filled-length =
      fill-length inv t.n (map (reordered t order) (up_to t.m)) ∙ length-map-up_to (reordered t order) t.m

  -- kept: the filled table has every cared row as drawn
  pub kept : T (is_order t.n order)
      → (j r : ℕ) → j < t.m → r < 2 ^ t.n → T (t.row j r).care → filled_bit inv t order j r ≡ (t.row j r).value
  unfolding filled_bit filled
  kept o j r hj hr c =
      let f₀ = full {A = Row} (record { value = false; care = false }) t.n in
      let fs = map (reordered t order) (up_to t.m) in
      let a = row_under t.n order r in
      let found : get_or fs j f₀ ≡ reordered t order j =
      get_or-map-up_to (reordered t order) t.m j f₀ hj in
      let there : at 0 a (get_or fs j f₀) ≡ t.row j r = ap (at 0 a) found ∙ at-reordered t order o j r hr in
      kept_at inv t.n fs j f₀ (full false t.n) (omega (arith, length-map-up_to (reordered t order) t.m)) 0 a
      (subst (λ (x : Row). T x.care) (sym there) c)
      ∙ ap (λ (x : Row). x.value) there

  -- whole: 'A fully cared table fills to itself'
  pub whole : T (is_order t.n order) → FullyCared t
      → (j r : ℕ) → j < t.m → r < 2 ^ t.n → filled_bit inv t order j r ≡ (t.row j r).value
  whole o cared j r hj hr = kept o j r hj hr (cared j r hj hr)

  -- right: the network is a diagram as section 4 words it, and computes the filled table
  pub right : Solves inv t order (network_of inv t order)
  unfolding network_of Computes filled_bit
  right =
      record {
        formed =
            subst (λ (m : ℕ). T (well_formed inv t.n m (network_of inv t order))) filled-length
            (network-formed inv t.n (filled inv t order));
        computes =
            λ j r hj hr. network-gives inv t.n (filled inv t order) (row_under t.n order r) j (full false t.n)
            (omega (arith, filled-length));
      }

  module _ (D : Diagram) (s : Solves inv t order D) where
    -- as drawn: so every diagram that computes the filled table gives every cared row as drawn
    pub as-drawn : T (is_order t.n order) → AsDrawn inv t order D
    unfolding AsDrawn Computes
    as-drawn o j r hj hr c = s.computes j r hj hr ∙ kept o j r hj hr c

    pub solves-length : length D.roots ≡ t.m
    solves-length = eqb→eq (length D.roots) t.m (formed-length inv t.n t.m D s.formed)

    solves-good : Good inv t.n D
    solves-good = formed-nodes inv t.n t.m D s.formed

    root-from : (j : ℕ) → j < t.m → T (from inv D 0 (get_or D.roots j 0))
    root-from j h =
        from-top inv D (get_or D.roots j 0)
        (all-at (refers inv D) D.roots (formed-roots inv t.n t.m D s.formed) j 0 (omega (arith, solves-length)))

    -- a root's function is its output's filled function: some drawn row has any bits that the levels may see
    pub root-function : T (is_order t.n order) → (j : ℕ) → j < t.m
        → get_or (filled inv t order) j (full false t.n) ≡ function inv D t.n 0 (get_or D.roots j 0)
    unfolding Computes filled_bit
    root-function o j h =
        let f = get_or (filled inv t order) j (full false t.n) in
        let g = function inv D t.n 0 (get_or D.roots j 0) in
        tree-ext 0 f g
        (λ a. let r = row_number t.n (λ v. a (index eqb v order)) in
        let w = row_of t.n order o a in
        let b = row_under t.n order r in
        let fine : (q : ℕ) → 0 ≤ q → q < 0 + t.n → b q ≡ a q = λ q _ k. w.1 q (omega arith) in
        sym (at_above 0 b a f fine) ∙ sym (s.computes j r h w.0)
        ∙ function-gives inv t.n D solves-good b t.n 0 (get_or D.roots j 0) t.n (omega arith) (le_refl t.n) (root-from j h)
        ∙ at_above 0 b a g fine)

    reaches-root : T (is_order t.n order) → (j : ℕ) → j < t.m
        → Reaches inv D t.n 0 (get_or (filled inv t order) j (full false t.n))
    reaches-root o j h =
        record {
          ref = get_or D.roots j 0;
          turned = false;
          reached = root-from j h;
          computed = root-function o j h ∙ sym (plain inv (function inv D t.n 0 (get_or D.roots j 0)));
        }
      where
        plain : (i : Bool) (x : Tree Bool t.n) → inverted (i && false) x ≡ x
        plain true x = inverted-false x
        plain false x = inverted-false x

  -- least: no diagram that uses the order and computes the filled table has fewer nodes
  pub least : T (is_order t.n order) → Least inv t order (count inv t.n (filled inv t order))
  unfolding Least
  least o D s =
      least-trees inv t.n D (solves-good D s) (filled inv t order)
      (every-at (Reaches inv D t.n 0) (filled inv t order) (full false t.n)
      (λ j h. reaches-root D s o j (omega (arith, filled-length))))

  -- fits: no such diagram fits a board exactly when the network has more nodes than the board
  pub fits : T (is_order t.n order) → (capacity : ℕ) → NoneFits inv t order capacity ↔ (capacity < count inv t.n (filled inv t order))
  unfolding NoneFits Least network_of network count
  fits o capacity =
      let c = count inv t.n (filled inv t order) in (
        λ none. split (ltb capacity c) (λ e. ltb-true capacity c e)
            (λ e. absurd (none (network_of inv t order) right (ltb-false capacity c e))),
        λ h D s f. absurd (omega (arith, h, least o D s, f)),
      )

-- the least-nodes theorem in terms of an order's cost
pub least-cost : (t : Table) (order : List ℕ) → T (is_order t.n order) → Least true t order (cost t order)
unfolding cost
least-cost t order o = least true t order o
