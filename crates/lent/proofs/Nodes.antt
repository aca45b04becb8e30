-- The counted cells as nodes: how many there are, the one at each index, a test of all of them by index, and that they are as many numbers;
-- and the lent diagram by its numbers.
-- Assumes nothing.
use mathlib.Core.Path.{◌≡◌, sym, ap, ◌∙◌, subst}
use mathlib.Core.Bool.{Bool}
use mathlib.Core.List.{List, map}
use Prim.Native.Nat.{ℕ, ◌+◌, ◌*◌, ◌/◌, ◌%◌, ◌≤◌, ◌<◌}
use native.Mathlib.Omega.{arith}
use borrow.Author.Tests.{eqb-true, eqb-false}
use lib.Dec.{eqb}
use lib.ListN.{length, get_or}
use Rattle.lists.specs.Lists.{all, up_to}
use Rattle.lists.proofs.Bools.{split}
use Rattle.lists.proofs.Lists.Membership.{all-mapped}
use Rattle.lists.proofs.Numbers.UpTo.{length-map-up_to, get_or-map-up_to, map-up_to-cong, first-elements}
use Rattle.diagram.specs.Networks.Diagram.{Node}
use Rattle.lent.specs.Lent.{node_by, diagram_by, cells_by, number_in, lent_node, lent_diagram}

-- the counted cells, by any numbers

module _ (count : ℕ) (number : ℕ → ℕ) where
  pub cells-length : length (cells_by count number).nodes ≡ count
  unfolding cells_by
  cells-length = length-map-up_to (node_by number) count

  pub cell_at : (i : ℕ) (d : Node) → i < count → get_or (cells_by count number).nodes i d ≡ node_by number i
  unfolding cells_by
  cell_at i d h = get_or-map-up_to (node_by number) count i d h

  -- a test of all nodes, cell by cell
  pub all-nodes : (q : Node → Bool) → all q (cells_by count number).nodes ≡ all (λ i. q (node_by number i)) (up_to count)
  unfolding cells_by
  all-nodes q = all-mapped q (node_by number) (up_to count)

-- nodes are equal exactly where their numbers are, three each
module _ (count : ℕ) (f g : ℕ → ℕ) where
  node-same : ((x : ℕ) → x < 3 * count → f x ≡ g x) → (i : ℕ) → i < count → node_by f i ≡ node_by g i
  node-same e i h = rw (e (3 * i) (omega arith), e (3 * i + 1) (omega arith), e (3 * i + 2) (omega arith))

  pub nodes-same : ((x : ℕ) → x < 3 * count → f x ≡ g x) → map (node_by f) (up_to count) ≡ map (node_by g) (up_to count)
  nodes-same e = map-up_to-cong count (node_by f) (node_by g) (node-same e)

  pub same_number : map (node_by f) (up_to count) ≡ map (node_by g) (up_to count) → (x : ℕ) → x < 3 * count → f x ≡ g x
  same_number e x h =
      let i : ℕ = x / 3 in
      let d : Node = node_by f 0 in
      let k : i < count = omega arith in
      let same : node_by f i ≡ node_by g i =
      sym (get_or-map-up_to (node_by f) count i d k) ∙ ap (λ (ns : List Node). get_or ns i d) e ∙ get_or-map-up_to (node_by g) count i d k in
      split (eqb (x % 3) 0)
      (λ z. let q : 3 * (x / 3) ≡ x = omega (arith, eqb-true (x % 3) 0 z) in
      subst (λ (y : ℕ). f y ≡ g y) q (ap (λ (c : Node). c.level) same))
      (λ z. split (eqb (x % 3) 1)
      (λ o. let q : 3 * (x / 3) + 1 ≡ x = omega (arith, eqb-true (x % 3) 1 o) in
      subst (λ (y : ℕ). f y ≡ g y) q (ap (λ (c : Node). c.low) same))
      (λ o. let q : 3 * (x / 3) + 2 ≡ x = omega (arith, eqb-false (x % 3) 0 z, eqb-false (x % 3) 1 o) in
      subst (λ (y : ℕ). f y ≡ g y) q (ap (λ (c : Node). c.high) same)))

-- where so many roots are lent, the lent diagram is that of the lent numbers
pub lent-diagram : (count m : ℕ) (cells roots : List ℕ) → m ≤ length roots
    → lent_diagram count m cells roots ≡ diagram_by count m (number_in cells) (number_in roots)
unfolding lent_diagram
lent-diagram count m cells roots fit =
    ap (λ (rs : List ℕ). record { nodes = map (lent_node cells) (up_to count); roots = rs }) (first-elements m roots fit)
