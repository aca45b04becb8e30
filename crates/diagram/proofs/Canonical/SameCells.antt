-- A filled table is recognised by its cells (document 02, 2.10): equal filled tables have one network, and a network gives its table.
-- Assumes nothing.
use mathlib.Core.Path.{◌≡◌, sym, ap, ◌∙◌, subst, subst₂}
use mathlib.Core.Bool.{Bool}
use mathlib.Core.List.{List}
use mathlib.Core.Logic.Iff
use mathlib.Core.Logic.{◌↔◌}
use Prim.Native.Nat.{ℕ, ◌<◌, ◌^◌}
use native.Mathlib.Omega.{arith}
use lib.Dec.{T}
use lib.ListN.{length, get_or}
use Rattle.lists.proofs.Bools.{to-T}
use Rattle.diagram.specs.Networks.Diagram.{Diagram, well_formed, gives}
use Rattle.diagram.specs.Orders.Order.{is_order, row_under}
use Rattle.diagram.specs.Table.{Table, FullyCared, filled, filled_bit, network_of, Computes}
use Rattle.diagram.specs.Canonical.Computed.{canonical}
use Rattle.diagram.specs.Canonical.SameCells.{SameBits, value_at, SameNetwork, SameCells}
use Rattle.diagram.proofs.Demands.{filled-length, whole, right}
use Rattle.diagram.proofs.Canonical.NetworkIff.{network-canonical, solved-network}

-- cells and roots are all of a network, and the cells have the count
pub same-network : {D E : Diagram} → SameNetwork D E → D ≡ E
same-network s = λ i. record { nodes = s.cells i; roots = s.roots i }

pub network-same : {D E : Diagram} → D ≡ E → SameNetwork D E
network-same e =
    record {
      counts = ap (λ (X : Diagram). length X.nodes) e;
      cells = ap (λ (X : Diagram). X.nodes) e;
      roots = ap (λ (X : Diagram). X.roots) e;
    }

-- two tables of the same n and m, under the same order
module _ (inv : Bool) (t u : Table) (order other : List ℕ) (en : t.n ≡ u.n) (em : t.m ≡ u.m) (eo : order ≡ other) where
  abbrev theirs : Diagram
  theirs = network_of inv u other

  -- what holds of the second's n, m and order holds of the first's
  here : (X : ℕ → ℕ → List ℕ → Type 0) → X u.n u.m other → X t.n t.m order
  here X x = subst (λ (o : List ℕ). X t.n t.m o) (sym eo) (subst₂ (λ (n m : ℕ). X n m other) (sym en) (sym em) x)

  computes-here : Computes inv t.n t.m order theirs (filled_bit inv u other)
  computes-here = here (λ n m o. Computes inv n m o theirs (filled_bit inv u other)) (right inv u other).computes

  module _ (o : T (is_order t.n order)) where
    order-there : T (is_order u.n other)
    order-there = subst₂ (λ (n : ℕ) (l : List ℕ). T (is_order n l)) en eo o

    canonical-here : T (canonical inv t.n t.m order theirs)
    unfolding network_of
    canonical-here =
        here (λ n m l. T (canonical inv n m l theirs))
        (to-T (network-canonical inv u.n u.m other (filled inv u other) order-there (filled-length inv u other)))

    -- the second's network computes the first's filled table too, so it is the first's
    table-network : SameBits t.n t.m (filled_bit inv t order) (filled_bit inv u other) → network_of inv t order ≡ theirs
    unfolding Computes
    table-network same =
        solved-network inv t order theirs o
        (record {
          formed = here (λ n m l. T (well_formed inv n m theirs)) (right inv u other).formed;
          computes = λ j r hj hr. computes-here j r hj hr ∙ sym (same j r hj hr);
        })
        canonical-here

  -- what a network gives is its table
  network-table : network_of inv t order ≡ theirs → SameBits t.n t.m (filled_bit inv t order) (filled_bit inv u other)
  unfolding Computes
  network-table e j r hj hr =
      sym ((right inv t order).computes j r hj hr)
      ∙ ap (λ (D : Diagram). gives inv D (row_under t.n order r) t.n (get_or D.roots j 0)) e
      ∙ computes-here j r hj hr

pub same-cells : (inv : Bool) → SameCells inv
unfolding SameCells
same-cells inv t u order other en em eo o = (
  λ same. network-same (table-network inv t u order other en em eo o same),
  λ s. network-table inv t u order other en em eo (same-network s),
)

-- of fully cared tables, which fill to themselves, by their values
module _ (inv : Bool) (t u : Table) (order other : List ℕ) (en : t.n ≡ u.n) (em : t.m ≡ u.m) (eo : order ≡ other)
    (o : T (is_order t.n order)) (ct : FullyCared t) (cu : FullyCared u) where
  values-filled : SameBits t.n t.m (value_at t) (value_at u)
      ↔ SameBits t.n t.m (filled_bit inv t order) (filled_bit inv u other)
  values-filled =
      let ours : SameBits t.n t.m (filled_bit inv t order) (value_at t) = whole inv t order o ct in
      let theirs : SameBits t.n t.m (filled_bit inv u other) (value_at u) = λ j r hj hr.
      whole inv u other (order-there inv t u order other en em eo o) cu j r (omega arith) (subst (λ (n : ℕ). r < 2 ^ n) en hr) in (
        λ same j r hj hr. ours j r hj hr ∙ same j r hj hr ∙ sym (theirs j r hj hr),
        λ same j r hj hr. sym (ours j r hj hr) ∙ same j r hj hr ∙ theirs j r hj hr,
      )

  pub cared-cells : SameBits t.n t.m (value_at t) (value_at u) ↔ SameNetwork (network_of inv t order) (network_of inv u other)
  unfolding SameCells
  cared-cells = Iff.trans values-filled (same-cells inv t u order other en em eo o)
