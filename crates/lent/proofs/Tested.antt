-- The tests of number 24 on cells and roots, each by what the numbers at hand say: `number x` is number x of the cells, and `root j` is
-- root j, wherever the code reads them (lent slices here, a network file's blocks in crate network_file).
-- Assumes nothing.
use mathlib.Core.Path.{◌≡◌, sym, ap, ◌∙◌}
use mathlib.Core.Bool.{Bool, true, false, ◌&&◌}
use mathlib.Core.List.{List, map}
use Prim.Native.Nat.{ℕ, ◌+◌, ◌*◌, ◌-◌, ◌/◌, ◌≤◌, ◌<◌}
use native.Mathlib.Omega.{arith}
use borrow.Author.Tests.{lt-ltb, le-ltb, le-leb, lt-leb, eq-eqb}
use lib.Dec.{T, ltb, leb, leb→le}
use lib.Seq.{take-length}
use lib.ListN.{length}
use Rattle.lists.specs.Lists.{all, up_to}
use Rattle.lists.proofs.Lists.Membership.{all-mapped}
use Rattle.lists.proofs.Numbers.UpTo.{length-map-up_to, first-elements}
use Rattle.diagram.specs.Networks.Diagram.{later, refers, node_at, node_good, well_formed}
use Rattle.lent.specs.Lent.{node_by, diagram_by, number_in, cells_by, lent_cells}
use Rattle.lent.proofs.Nodes.{cells-length, cell_at}

-- cell i, from 0, and root j, by their tests

abbrev pub good_node : ℕ → (ℕ → ℕ) → ℕ → ℕ → Bool
good_node count number n i = node_good true n (cells_by count number) (node_by number i)

abbrev pub own_root : ℕ → (ℕ → ℕ) → (ℕ → ℕ) → ℕ → Bool
own_root count number root j = refers true (cells_by count number) (root j)

module _ (count : ℕ) (number : ℕ → ℕ) where
  -- a reference

  pub refers-own : (r : ℕ) → r ≤ count + count + 1 → refers true (cells_by count number) r ≡ true
  refers-own r h = rw (cells-length count number) (le-leb r (2 * count + 1) (omega arith))

  pub refers-past : (r : ℕ) → count + count + 1 < r → refers true (cells_by count number) r ≡ false
  refers-past r h = rw (cells-length count number) (lt-leb r (2 * count + 1) (omega arith))

  pub refers-below : (r : ℕ) → T (refers true (cells_by count number) r) → r ≤ count + count + 1
  refers-below r t = omega (arith, leb→le r _ t, cells-length count number)

  -- a reference, by one comparison
  pub refers-to : (r : ℕ) → leb r (count + count + 1) ≡ refers true (cells_by count number) r
  refers-to r =
      let most : count + count + 1 ≡ 2 * length (cells_by count number).nodes + 1 = omega (arith, cells-length count number) in
      ap (leb r) most

  -- the cell behind a reference
  pub node-behind : (r : ℕ) → 2 ≤ r → r ≤ count + count + 1 → node_at true (cells_by count number) r ≡ node_by number (r / 2 - 1)
  node-behind r h k = cell_at count number (r / 2 - 1) (record { level = 0; low = 0; high = 0 }) (omega arith)

  -- an edge

  module _ (p r : ℕ) where
    pub later-constant : r < 2 → later true (cells_by count number) p r ≡ true
    later-constant h = rw (lt-ltb r 2 h)

    pub later-past : 2 ≤ r → count + count + 1 < r → later true (cells_by count number) p r ≡ false
    later-past h k = rw (le-ltb r 2 h, refers-past r k)

    pub later-own : 2 ≤ r → r ≤ count + count + 1 → later true (cells_by count number) p r ≡ ltb p (number (3 * (r / 2 - 1)))
    later-own h k = rw (le-ltb r 2 h, refers-own r k, node-behind r h k)

  -- the first m roots

  module _ (root : ℕ → ℕ) where
    module _ (m : ℕ) where
      -- both tests make the one of a well-formed diagram

      pub both-tests : (n : ℕ) → well_formed true n m (diagram_by count m number root)
          ≡ all (own_root count number root) (up_to m) && all (node_good true n (cells_by count number)) (cells_by count number).nodes
      unfolding well_formed cells_by
      both-tests n =
          rw (eq-eqb (length (map root (up_to m))) m (length-map-up_to root m), all-mapped (refers true (cells_by count number)) root (up_to m))

      pub formed-not : (n : ℕ) → all (own_root count number root) (up_to m) ≡ false
          → well_formed true n m (diagram_by count m number root) ≡ false
      formed-not n e = both-tests n ∙ rw e

      pub formed-rest : (n : ℕ) → all (own_root count number root) (up_to m) ≡ true
          → well_formed true n m (diagram_by count m number root)
          ≡ all (node_good true n (cells_by count number)) (cells_by count number).nodes
      formed-rest n e = both-tests n ∙ rw e

-- lent roots are tested one by one as the numbers that they are
pub roots-tested : (count : ℕ) (cells roots : List ℕ) → all (refers true (lent_cells count cells)) roots
    ≡ all (own_root count (number_in cells) (number_in roots)) (up_to (length roots))
roots-tested count cells roots =
    ap (all (refers true (lent_cells count cells))) (sym (take-length roots) ∙ first-elements (length roots) roots (omega arith))
    ∙ all-mapped (refers true (lent_cells count cells)) (number_in roots) (up_to (length roots))
