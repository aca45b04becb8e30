-- A network depends on a table's rows alone: two tables with the same rows have one network, so a diagram stands for its table, and to go
-- to another order and back by what the diagrams compute loses nothing.
-- Assumes nothing.
use mathlib.Core.Path.{◌≡◌, refl, sym, ap, ◌∙◌}
use mathlib.Core.Bool.{Bool}
use mathlib.Core.List.{List}
use Prim.Native.Nat.{ℕ, ◌<◌, ◌^◌}
use lib.Dec.{T}
use lib.ListN.{get_or}
use Rattle.lists.proofs.Bools.{of_T}
use Rattle.diagram.specs.Filling.Fill.{Row}
use Rattle.diagram.specs.Networks.Diagram.{Diagram, well_formed, gives}
use Rattle.diagram.specs.Orders.Order.{is_order, row_under}
use Rattle.diagram.specs.Table.{Table, FullyCared, network_of, Computes}
use Rattle.diagram.specs.Canonical.Computed.{computed_table, canonical}
use Rattle.diagram.proofs.Demands.{whole, right}
use Rattle.diagram.proofs.Canonical.NetworkIff.{canonical-table}
use Rattle.diagram.proofs.Filling.FreeRows.{network-alike}

-- one network of two tables with the same rows, under any order
pub same-table : (inv : Bool) (t u : Table) (order : List ℕ) → t.n ≡ u.n → t.m ≡ u.m
    → ((j r : ℕ) → j < t.m → r < 2 ^ t.n → t.row j r ≡ u.row j r) → network_of inv t order ≡ network_of inv u order
same-table inv t u order en em e =
    network-alike t u
    (record {
      inputs = en;
      outputs = em;
      cared = λ j r h k. ap (λ (x : Row). x.care) (e j r h k);
      valued = λ j r h k _. ap (λ (x : Row). x.value) (e j r h k);
    })
    inv order

-- of fully cared ones with the same values
pub cared-same : (inv : Bool) (t u : Table) (order : List ℕ) → t.n ≡ u.n → t.m ≡ u.m
    → FullyCared t → ((j r : ℕ) → j < t.m → r < 2 ^ t.n → T (u.row j r).care)
    → ((j r : ℕ) → j < t.m → r < 2 ^ t.n → (t.row j r).value ≡ (u.row j r).value) → network_of inv t order ≡ network_of inv u order
cared-same inv t u order en em c e v =
    same-table inv t u order en em
    (λ j r h k. let a : (t.row j r).value ≡ (u.row j r).value = v j r h k in
    let b : (t.row j r).care ≡ (u.row j r).care = of_T (c j r h k) ∙ sym (of_T (e j r h k)) in
    λ i. record { value = a i; care = b i })

module _ (inv : Bool) (t : Table) (order : List ℕ) (o : T (is_order t.n order)) (cared : FullyCared t) where
  -- the network of a fully cared table gives its values
  pub network-values : (j r : ℕ) → j < t.m → r < 2 ^ t.n
      → gives inv (network_of inv t order) (row_under t.n order r) t.n (get_or (network_of inv t order).roots j 0) ≡ (t.row j r).value
  unfolding Computes
  network-values j r h k = (right inv t order).computes j r h k ∙ whole inv t order o cared j r h k

  -- so it stands for the table under any other order
  pub exchanged-cared : (other : List ℕ)
      → network_of inv (computed_table inv t.n t.m order (network_of inv t order)) other ≡ network_of inv t other
  exchanged-cared other =
      cared-same inv (computed_table inv t.n t.m order (network_of inv t order)) t other refl refl (λ j r h k. tt) cared network-values

-- and from the other order back, by what the other's network computes
pub exchanged-back : (inv : Bool) (n m : ℕ) (order other : List ℕ) (D : Diagram) → T (is_order n order) → T (is_order n other)
    → T (well_formed inv n m D) → T (canonical inv n m order D)
    → network_of inv (computed_table inv n m other (network_of inv (computed_table inv n m order D) other)) order ≡ D
exchanged-back inv n m order other D o v w c =
    let t = computed_table inv n m order D in
    canonical-table inv n m order D o w (computed_table inv n m other (network_of inv t other))
    (record {
      inputs = refl;
      outputs = refl;
      valued = network-values inv t other v (λ j r h k. tt);
      cared = λ j r h k. tt;
    })
    c
