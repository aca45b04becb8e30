-- Cells and roots that hold a diagram, read again, are that diagram; and of a held table's network demands 2 and 3 hold.
-- Assumes nothing.
use mathlib.Core.Path.{◌≡◌, refl, sym, ap, ap₂, ◌∙◌, subst}
use mathlib.Core.Bool.{true, not}
use mathlib.Core.List.{List, [], ◌∷◌, ◌++◌, map}
use mathlib.Core.Logic.{◌↔◌}
use Prim.Native.Nat.{ℕ, zero, suc, ◌+◌, ◌*◌, ◌/◌, ◌≤◌, ◌<◌}
use native.Mathlib.Nat.{not-suc-le-zero, le_of_suc-le-suc}
use native.Mathlib.Omega.{arith}
use lib.Dec.{T, eqb→eq}
use lib.ListN.{length, get_or, take, drop, length-append, length-drop}
use lib.Seq.{ext_get_or, length-take-le, get_or-take}
use Rattle.lists.specs.Lists.{up_to}
use Rattle.lists.specs.Written.{over}
use Rattle.lists.proofs.Numbers.UpTo.{length-map-up_to, get_or-map-up_to}
use Rattle.lists.proofs.Written.Over.{get_d_over}
use Rattle.diagram.specs.Networks.Diagram.{Node, Diagram}
use Rattle.diagram.specs.Networks.Bound.{most_outputs}
use Rattle.diagram.specs.Table.{Table, network_of, cost}
use Rattle.diagram.specs.Demands.{Least, NoneFits}
use Rattle.diagram.proofs.Networks.Evaluate.{formed-length}
use Rattle.diagram.proofs.Demands.{right, as-drawn, least-cost, fits}
use Rattle.table.specs.declared.State.{State}
use Rattle.table.specs.declared.Done.{Done}
use Rattle.table.specs.State.{order_of, stage_of, is_nothing}
use Rattle.table.proofs.Held.{few-outputs, ordered}
use Rattle.fill.specs.Calls.{held_table}
use Rattle.lent.specs.Lent.{lent_node, lent_diagram, numbers_of, roots_size}
use Rattle.lent.proofs.Sizes.{roots-size}
use Rattle.network.specs.Build.{held_network, wanted, capacity, Built}
use Rattle.network.proofs.Building.HeldRead.{wanted-nodes}
use Rattle.network.proofs.LinksRead.LevelsRead.{numbers-length}

abbrev node : ℕ → ℕ → ℕ → Node
node p l h = record { level = p; low = l; high = h }

-- cell i of stored nodes is node i
lent_at : (ns : List Node) (rest : List ℕ) (d : Node) (i : ℕ) → i < length ns → lent_node (numbers_of ns ++ rest) i ≡ get_or ns i d
lent_at [] rest d i h = absurd (not-suc-le-zero h)
lent_at (c ∷ ns) rest d zero h = refl
lent_at (c ∷ ns) rest d (suc i) h =
    let l = numbers_of (c ∷ ns) ++ rest in
    let e : 3 * suc i ≡ suc (suc (suc (3 * i))) = omega arith in
    let e₁ : 3 * suc i + 1 ≡ suc (suc (suc (3 * i + 1))) = omega arith in
    let e₂ : 3 * suc i + 2 ≡ suc (suc (suc (3 * i + 2))) = omega arith in
    ap₂ (λ x y. node (get_or l x 0) (get_or l y 0) (get_or l (3 * suc i + 2) 0)) e e₁
    ∙ ap (λ x. node (get_or l (suc (suc (suc (3 * i)))) 0) (get_or l (suc (suc (suc (3 * i + 1)))) 0) (get_or l x 0)) e₂
    ∙ lent_at ns rest d i (le_of_suc-le-suc h)

lent-nodes : (ns : List Node) (rest : List ℕ) → map (lent_node (numbers_of ns ++ rest)) (up_to (length ns)) ≡ ns
lent-nodes ns rest =
    let f = lent_node (numbers_of ns ++ rest) in
    ext_get_or (node 0 0 0) (map f (up_to (length ns))) ns (length-map-up_to f (length ns))
    (λ i h. let k : i < length ns = omega (arith, length-map-up_to f (length ns)) in
    get_or-map-up_to f (length ns) i (node 0 0 0) k ∙ lent_at ns rest (node 0 0 0) i k)

-- the first m of some numbers written over others are those
taken : (l : List ℕ) (k : ℕ) (rest : List ℕ) → length l ≤ k → take (length l) (over (λ j. get_or l j 0) k rest) ≡ l
taken l k rest h =
    let f : ℕ → ℕ = λ j. get_or l j 0 in
    let e : length (take (length l) (over f k rest)) ≡ length l =
    length-take-le (length l) (over f k rest) (omega (arith, length-append (map f (up_to k)) (drop k rest), length-map-up_to f k)) in
    ext_get_or 0 (take (length l) (over f k rest)) l e
    (λ i a. let b : i < length l = omega (arith, e) in
    get_or-take (length l) (over f k rest) i 0 b ∙ get_d_over f k rest i 0 (omega arith))

-- nodes written over cells that have room for them leave as many cells
pub stored-length : (ns : List Node) (k : ℕ) (cells : List ℕ) → k ≡ length ns → k ≤ capacity cells
    → length (numbers_of ns ++ drop (3 * k) cells) ≡ length cells
stored-length ns k cells e h =
    omega (arith, length-append (numbers_of ns) (drop (3 * k) cells), numbers-length ns, length-drop (3 * k) cells)

-- the cells that a build leaves have room for the network
pub cells-enough : (s : State) (values care cells : List ℕ)
    → wanted s values care ≤ length (numbers_of (held_network s values care).nodes ++ drop (3 * wanted s values care) cells) / 3
cells-enough s values care cells =
    let N = (held_network s values care).nodes in
    omega (arith, length-append (numbers_of N) (drop (3 * wanted s values care) cells), numbers-length N, wanted-nodes s values care)

-- cells and roots that hold a diagram of so many roots are that diagram
pub lent-network : (D : Diagram) (m : ℕ) → length D.roots ≡ m → m ≤ most_outputs → (rest roots : List ℕ)
    → lent_diagram (length D.nodes) m (numbers_of D.nodes ++ rest) (over (λ j. get_or D.roots j 0) roots_size roots) ≡ D
unfolding lent_diagram
lent-network D m e few rest roots =
    ap₂ (λ (x : List Node) (y : List ℕ). record { nodes = x; roots = y }) (lent-nodes D.nodes rest)
    (ap (λ n. take n (over (λ j. get_or D.roots j 0) roots_size roots)) (sym e)
    ∙ taken D.roots roots_size roots (omega (arith, e, roots-size)))

-- a table's network has a root an output
pub roots-length : (t : Table) (order : List ℕ) → length (network_of true t order).roots ≡ t.m
roots-length t order =
    let D = network_of true t order in
    eqb→eq (length D.roots) t.m (formed-length true t.n t.m D (right true t order).formed)

module _ (s : State) (values care : List ℕ) (held : T (not (is_nothing (stage_of s)))) where
  -- the cells and the roots that a build leaves hold the network
  pub lent-held : (cells roots : List ℕ)
      → lent_diagram (wanted s values care) s.m (numbers_of (held_network s values care).nodes ++ drop (3 * wanted s values care) cells)
      (over (λ j. get_or (held_network s values care).roots j 0) roots_size roots)
      ≡ held_network s values care
  unfolding held_network
  lent-held cells roots =
      let D = held_network s values care in
      let rest = drop (3 * wanted s values care) cells in
      ap (λ n. lent_diagram n s.m (numbers_of D.nodes ++ rest) (over (λ j. get_or D.roots j 0) roots_size roots))
      (wanted-nodes s values care)
      ∙ lent-network D s.m (roots-length (held_table s values care) (order_of s)) (few-outputs s held) rest roots

  -- demands 2 and 3's least of the held table's network, where a call that is done answers and counts its cells
  module _ (r : Done) (ea : r.value ≡ wanted s values care) (ec : r.state.count ≡ wanted s values care) where
    built-held : (board : ℕ) → wanted s values care ≤ board → Built s values care r (held_network s values care) board
    unfolding held_network wanted
    built-held board h =
        let t = held_table s values care in
        let o = ordered s held in
        record {
          solves = right true t (order_of s);
          drawn = as-drawn true t (order_of s) (held_network s values care) (right true t (order_of s)) o;
          counted = sym (wanted-nodes s values care) ∙ sym ec;
          answered = sym (wanted-nodes s values care) ∙ sym ea;
          fits = omega (arith, wanted-nodes s values care);
          least = subst (Least true t (order_of s)) (sym ea) (least-cost t (order_of s) o);
        }

    -- the same of the cells and the roots that a build leaves
    pub built-lent : (cells roots cells' roots' : List ℕ)
        → cells' ≡ numbers_of (held_network s values care).nodes ++ drop (3 * wanted s values care) cells
        → roots' ≡ over (λ j. get_or (held_network s values care).roots j 0) roots_size roots
        → Built s values care r (lent_diagram r.state.count s.m cells' roots') (capacity cells')
    built-lent cells roots cells' roots' dc dr =
        let e : lent_diagram r.state.count s.m cells' roots' ≡ held_network s values care =
        ap (λ k. lent_diagram k s.m cells' roots') ec ∙ ap₂ (lent_diagram (wanted s values care) s.m) dc dr
        ∙ lent-held cells roots in
        subst (λ (D : Diagram). Built s values care r D (capacity cells')) (sym e)
        (built-held (capacity cells') (subst (λ (c : List ℕ). wanted s values care ≤ capacity c) (sym dc)
        (cells-enough s values care cells)))

  -- demand 3's fit
  pub fit-held : (board : ℕ) → NoneFits true (held_table s values care) (order_of s) board ↔ (board < wanted s values care)
  unfolding wanted cost
  fit-held board = fits true (held_table s values care) (order_of s) (ordered s held) board
