-- Number 32 is decided by structure (`network-iff`), and what follows where a diagram is the network of what it computes.
-- Assumes nothing.
use mathlib.Core.Path.{◌≡◌, refl, sym, ap, ◌∙◌, subst, subst₂}
use mathlib.Core.Bool.{Bool, true, false, ◌&&◌}
use mathlib.Core.List.{List, map}
use Prim.Native.Nat.{ℕ, ◌≤◌, ◌<◌, ◌^◌}
use native.Mathlib.Omega.{arith}
use lib.Dec.{T, eqb}
use lib.ListN.{length, get_or, length-map}
use lib.Seq.{ext_get_or}
use Rattle.lists.specs.Lists.{all, distinct, firsts}
use Rattle.lists.proofs.Bools.{of_T, to-T, and_T, and_l, and_r, both_ways}
use Rattle.lists.proofs.Lists.Membership.{get_d_map, map_back}
use Rattle.diagram.specs.Tree.{Tree, full, same}
use Rattle.diagram.specs.Networks.Diagram.{Diagram, well_formed, gives, same_node, same_diagram}
use Rattle.diagram.specs.Networks.Network.{refer, network, count}
use Rattle.diagram.specs.Orders.Order.{is_order, row_under}
use Rattle.diagram.specs.Table.{Table, filled, network_of, Computes, Solves}
use Rattle.diagram.specs.Demands.{Least}
use Rattle.diagram.specs.Networks.Bound.{most_variables, most_outputs, most_nodes}
use Rattle.diagram.specs.Canonical.Computed.{computed_table, canonical}
use Rattle.diagram.specs.Canonical.Structure.{node_reduced, all_targets, numbered, structured}
use Rattle.diagram.proofs.Networks.Same.{diagram-equality}
use Rattle.diagram.proofs.Tree.{same-equality}
use Rattle.diagram.proofs.Networks.Known.{known_of}
use Rattle.diagram.proofs.Networks.Right.{network-holds, network-formed}
use Rattle.diagram.proofs.Networks.Function.{function, function-refer}
use Rattle.diagram.proofs.Networks.Evaluate.{formed-roots, formed-nodes}
use Rattle.diagram.proofs.Demands.{filled-length, whole, solves-length, root-function, least}
use Rattle.diagram.proofs.Networks.Bound.{most}
use Rattle.diagram.proofs.Canonical.Reduced.{Reduced}
use Rattle.diagram.proofs.Canonical.NetworkReduced.{network-reduced}
use Rattle.diagram.proofs.Canonical.StructureGives.{numbered-network}
use Rattle.diagram.proofs.Canonical.GivesStructure.{network-numbered}

-- a table that has in its rows what the diagram computes, every row cared
pub record Drawn (inv : Bool) (n m : ℕ) (order : List ℕ) (D : Diagram) (t : Table) : Type 0 where
  pub inputs : t.n ≡ n
  pub outputs : t.m ≡ m
  pub valued : (j r : ℕ) → j < m → r < 2 ^ n → (t.row j r).value ≡ gives inv D (row_under n order r) n (get_or D.roots j 0)
  pub cared : (j r : ℕ) → j < m → r < 2 ^ n → T (t.row j r).care

-- fully cared, it fills to itself, so the diagram computes it
drawn-solves : (inv : Bool) (order : List ℕ) (D : Diagram) (t : Table) → T (is_order t.n order) → T (well_formed inv t.n t.m D)
    → Drawn inv t.n t.m order D t → Solves inv t order D
unfolding Computes
drawn-solves inv order D t o w d =
    record {
      formed = w;
      computes = λ j r hj hr. sym (whole inv t order o d.cared j r hj hr ∙ d.valued j r hj hr);
    }

-- whatever diagram computes the filled table, the table fills to the functions of its roots
solved-filled : (inv : Bool) (t : Table) (order : List ℕ) (D : Diagram) → T (is_order t.n order) → Solves inv t order D
    → filled inv t order ≡ map (function inv D t.n 0) D.roots
solved-filled inv t order D o s =
    let f : ℕ → Tree Bool t.n = function inv D t.n 0 in
    let long : length D.roots ≡ t.m = solves-length inv t order D s in
    let full-length : length (filled inv t order) ≡ t.m = filled-length inv t order in
    ext_get_or (full false t.n) (filled inv t order) (map f D.roots) (full-length ∙ sym long ∙ sym (length-map D.roots f))
    (λ j h. root-function inv t order D s o j (omega arith)
    ∙ sym (get_d_map f D.roots j 0 (full false t.n) (omega arith)))

module _ (inv : Bool) (n m : ℕ) (order : List ℕ) (D : Diagram) (o : T (is_order n order)) (w : T (well_formed inv n m D)) (t : Table)
    (d : Drawn inv n m order D t) where
  own-order : T (is_order t.n order)
  own-order = subst (λ (k : ℕ). T (is_order k order)) (sym d.inputs) o

  pub solves-of : Solves inv t order D
  solves-of =
      let en = sym d.inputs in
      let em = sym d.outputs in
      drawn-solves inv order D t own-order (subst₂ (λ (k l : ℕ). T (well_formed inv k l D)) en em w)
      (subst₂ (λ (k l : ℕ). Drawn inv k l order D t) en em d)

  -- it fills to the functions of the roots, whatever the order
  pub drawn-filled : filled inv t order ≡ map (function inv D t.n 0) D.roots
  drawn-filled = solved-filled inv t order D own-order solves-of

module _ (inv : Bool) (n m : ℕ) (order : List ℕ) (D : Diagram) (o : T (is_order n order)) (w : T (well_formed inv n m D)) where
  -- the table that a diagram computes fills to the functions of its roots, whatever the order
  pub computed-filled : filled inv (computed_table inv n m order D) order ≡ map (function inv D n 0) D.roots
  computed-filled =
      drawn-filled inv n m order D o w (computed_table inv n m order D)
      (record { inputs = refl; outputs = refl; valued = λ j r hj hr. refl; cared = λ j r hj hr. tt })

  computed-network : network_of inv (computed_table inv n m order D) order ≡ network inv n (map (function inv D n 0) D.roots)
  unfolding network_of
  computed-network = ap (network inv n) computed-filled

-- one that passes is that very network
pub canonical-is : (inv : Bool) (n m : ℕ) (order : List ℕ) (D : Diagram) → T (canonical inv n m order D)
    → network_of inv (computed_table inv n m order D) order ≡ D
unfolding canonical
canonical-is inv n m order D t = sym (diagram-equality.sound D (network_of inv (computed_table inv n m order D) order) t)

-- and that very network passes
is-canonical : (inv : Bool) (n m : ℕ) (order : List ℕ) (D : Diagram) → network_of inv (computed_table inv n m order D) order ≡ D
    → canonical inv n m order D ≡ true
unfolding canonical
is-canonical inv n m order D e = of_T (subst (λ (E : Diagram). T (same_diagram D E)) (sym e) (diagram-equality.self D))

-- section 4's network of any functions passes, under any order: it computes the functions that it is made of
pub network-canonical : (inv : Bool) (n m : ℕ) (order : List ℕ) (ts : List (Tree Bool n)) → T (is_order n order) → length ts ≡ m
    → canonical inv n m order (network inv n ts) ≡ true
unfolding network
network-canonical inv n m order ts o e =
    let D = network inv n ts in
    let w : T (well_formed inv n m D) = subst (λ (k : ℕ). T (well_formed inv n k D)) e (network-formed inv n ts) in
    let back : map (function inv D n 0) (map (refer inv n 0 ts) ts) ≡ ts =
    map_back same same-equality (function inv D n 0) (refer inv n 0 ts) ts
    (λ t h. function-refer inv n D (formed-nodes inv n m D w) n 0 0 ts t (omega arith) (network-holds inv n ts) (known_of inv ts t h)) in
    is-canonical inv n m order D (computed-network inv n m order D o w ∙ ap (network inv n) back)

module _ (inv : Bool) (n m : ℕ) (order : List ℕ) (D : Diagram) (o : T (is_order n order)) (w : T (well_formed inv n m D)) where
  canonical-network : T (canonical inv n m order D) → network inv n (map (function inv D n 0) D.roots) ≡ D
  canonical-network t = sym (computed-network inv n m order D o w) ∙ canonical-is inv n m order D t

  -- so its nodes are reduced
  pub canonical-reduced : T (canonical inv n m order D) → Reduced inv n D
  canonical-reduced t = subst (Reduced inv n) (canonical-network t) (network-reduced inv n (map (function inv D n 0) D.roots))

  canonical-structured : T (canonical inv n m order D) → T (structured inv n D)
  unfolding structured
  canonical-structured t =
      let e = canonical-network t in
      let z = canonical-reduced t in
      let b = distinct same_node D.nodes in
      let c = numbered inv D n 0 0 (firsts eqb (all_targets inv D.roots)) in
      and_T (all (node_reduced inv) D.nodes) (b && c) z.each
      (and_T b c z.apart (network-numbered inv n D z (formed-roots inv n m D w) e))

  structured-canonical : T (structured inv n D) → T (canonical inv n m order D)
  unfolding structured
  structured-canonical t =
      let a = all (node_reduced inv) D.nodes in
      let b = distinct same_node D.nodes in
      let c = numbered inv D n 0 0 (firsts eqb (all_targets inv D.roots)) in
      let s : T (b && c) = and_r a (b && c) t in
      let z : Reduced inv n D = record { good = formed-nodes inv n m D w; each = and_l a (b && c) t; apart = and_l b c s } in
      to-T (is-canonical inv n m order D
      (computed-network inv n m order D o w ∙ numbered-network inv n D z (formed-roots inv n m D w) (and_r b c s)))

  -- the test by structure decides whether the diagram is section 4's network of what it computes
  pub network-iff : canonical inv n m order D ≡ structured inv n D
  network-iff = both_ways (canonical inv n m order D) (structured inv n D) canonical-structured structured-canonical

-- one that computes a table's filling under the order is that table's network
pub solved-network : (inv : Bool) (t : Table) (order : List ℕ) (D : Diagram) → T (is_order t.n order) → Solves inv t order D
    → T (canonical inv t.n t.m order D) → network_of inv t order ≡ D
unfolding network_of
solved-network inv t order D o s c =
    ap (network inv t.n) (solved-filled inv t order D o s) ∙ canonical-network inv t.n t.m order D o s.formed c

module _ (inv : Bool) (n m : ℕ) (order : List ℕ) (D : Diagram) (o : T (is_order n order)) (w : T (well_formed inv n m D)) where
  -- so any table that has in its rows what the diagram computes has the diagram for its network
  module _ (t : Table) (d : Drawn inv n m order D t) (c : T (canonical inv n m order D)) where
    pub canonical-table : network_of inv t order ≡ D
    canonical-table =
        solved-network inv t order D (own-order inv n m order D o w t d) (solves-of inv n m order D o w t d)
        (subst₂ (λ (k l : ℕ). T (canonical inv k l order D)) (sym d.inputs) (sym d.outputs) c)

    -- and no diagram that computes the table under the order has fewer nodes
    pub least-of : Least inv t order (length D.nodes)
    unfolding network_of network count
    least-of =
        subst (Least inv t order) (ap (λ (E : Diagram). length E.nodes) canonical-table)
        (least inv t order (own-order inv n m order D o w t d))

-- a canonical diagram has no more nodes than are ever needed
pub canonical-count : (n m : ℕ) (order : List ℕ) (D : Diagram) → T (is_order n order) → T (well_formed true n m D)
    → n ≤ most_variables → m ≤ most_outputs → T (canonical true n m order D) → length D.nodes ≤ most_nodes
unfolding network_of network count
canonical-count n m order D o w h k c =
    let t = computed_table true n m order D in
    let l : length (filled true t order) ≡ m = filled-length true t order in
    subst (λ (E : Diagram). length E.nodes ≤ most_nodes) (canonical-is true n m order D c)
    (most n (filled true t order) h (omega arith))
