-- The tests of the nodes one by one: each by what the numbers at hand say, and the slots' marks.
-- Assumes nothing.
use mathlib.Core.Path.{◌≡◌, refl, sym, ap, ap₂, ◌∙◌}
use mathlib.Core.Bool.{Bool, true, false, not, ◌&&◌, and-false}
use mathlib.Core.List.{List}
use Prim.Native.Nat.{ℕ, suc, ◌+◌, ◌<◌}
use native.Mathlib.Nat.{not-suc-le-zero}
use native.Mathlib.Numerals.{add-one}
use native.Mathlib.Omega.{arith}
use borrow.Author.Tests.{eqb-true}
use lib.Dec.{eqb}
use lib.ListN.{length, get_or, set, length-set}
use lib.Seq.{get_or-set_same, get_or-set_other}
use Rattle.lists.specs.Lists.{all, has, up_to}
use Rattle.lists.proofs.Bools.{split, to-T, absurd-T}
use Rattle.lists.proofs.Lists.Membership.{all-mapped}
use Rattle.lists.proofs.Numbers.Compared.{differ, below_other, all-up_to-fails}
use Rattle.lists.proofs.Lists.Grown.{distinct-up_to, has-up_to-more, has-up_to-none, has-up_to-at}
use Rattle.diagram.specs.Networks.Diagram.{Node, same_node}
use Rattle.diagram.specs.Canonical.Structure.{node_reduced}
use Rattle.diagram.proofs.Networks.Same.{node-equality}
use Rattle.lent.specs.Lent.{lent_node}
use Rattle.canonical.specs.Inner.Reduced.{lent_nodes, is_new, reduced_nodes, slots, node_slot, Slotted}

-- the same node has the same slot
same-slot : (c e : Node) → same_node c e ≡ true → node_slot c ≡ node_slot e
same-slot c e s = ap node_slot (node-equality.sound c e (to-T s))

module _ (cells : List ℕ) where
  -- the nodes before node i

  pub repeated-none : (i : ℕ) → has same_node (lent_node cells i) (lent_nodes cells 0) ≡ false
  unfolding lent_nodes
  repeated-none i = refl

  pub repeated-more : (i j : ℕ) → has same_node (lent_node cells i) (lent_nodes cells j) ≡ false
      → same_node (lent_node cells i) (lent_node cells j) ≡ false → has same_node (lent_node cells i) (lent_nodes cells (j + 1)) ≡ false
  unfolding lent_nodes
  repeated-more i j h e = has-up_to-more same_node (lent_node cells) (lent_node cells i) j h e

  pub repeated-at : (i j : ℕ) → j < i → same_node (lent_node cells i) (lent_node cells j) ≡ true
      → has same_node (lent_node cells i) (lent_nodes cells i) ≡ true
  unfolding lent_nodes
  repeated-at i j h e = has-up_to-at same_node (lent_node cells) (lent_node cells i) i j h e

  -- slots

  pub slotted-more : (i : ℕ) (marks : List Bool) → Slotted cells (suc i) marks → Slotted cells (i + 1) marks
  slotted-more i marks S = rw (add-one i) S

  module _ (i slot : ℕ) (at_slot : slot ≡ node_slot (lent_node cells i)) (marks : List Bool) (S : Slotted cells i marks) where
    -- a slot that has its mark
    pub slot_kept : get_or marks slot false ≡ true → Slotted cells (suc i) marks
    slot_kept e = record {
      room = S.room;
      marked = λ j h.
          split (eqb j i) (λ q. ap (λ (k : ℕ). get_or marks (node_slot (lent_node cells k)) false) (eqb-true j i q)
          ∙ ap (λ (k : ℕ). get_or marks k false) (sym at_slot) ∙ e)
          (λ q. S.marked j (below_other j i h q));
    }

    -- a slot that is marked now
    pub slot-marked : slot < slots → Slotted cells (suc i) (set marks slot true)
    slot-marked b = record {
      room = length-set marks slot true ∙ S.room;
      marked = λ j h.
          split (eqb (node_slot (lent_node cells j)) slot)
          (λ q. ap (λ (k : ℕ). get_or (set marks slot true) k false) (eqb-true (node_slot (lent_node cells j)) slot q)
          ∙ get_or-set_same marks slot true false (omega (arith, S.room)))
          (λ q. get_or-set_other marks slot (node_slot (lent_node cells j)) true false (differ (node_slot (lent_node cells j)) slot q)
          ∙ S.marked j (below_other j i h
          (split (eqb j i) (λ p. absurd (differ (node_slot (lent_node cells j)) slot q
          (ap (λ (k : ℕ). node_slot (lent_node cells k)) (eqb-true j i p) ∙ sym at_slot))) (λ p. p))));
    }

    -- with no mark the node is new
    pub slot-new : get_or marks slot false ≡ false → is_new cells i ≡ true
    unfolding is_new lent_nodes
    slot-new n =
        ap not
        (has-up_to-none same_node (lent_node cells) (lent_node cells i) i
        (λ j h. split (same_node (lent_node cells i) (lent_node cells j))
        (λ q. let e = ap (λ (k : ℕ). get_or marks k false) (at_slot ∙ same-slot (lent_node cells i) (lent_node cells j) q) ∙ S.marked j h in
        absurd-T {b = true} tt (sym e ∙ n))
        (λ q. q)))

  pub new-not : (i : ℕ) (b : Bool) → b ≡ has same_node (lent_node cells i) (lent_nodes cells i) → not b ≡ is_new cells i
  unfolding is_new
  new-not i b e = ap not e

  -- all nodes

  abbrev pub reduced_at : ℕ → Bool
  reduced_at i = node_reduced true (lent_node cells i)

  pub reduced-tests : (count : ℕ) → reduced_nodes cells count ≡ all reduced_at (up_to count) && all (is_new cells) (up_to count)
  unfolding reduced_nodes lent_nodes is_new
  reduced-tests count =
      ap₂ ◌&&◌ (all-mapped (node_reduced true) (lent_node cells) (up_to count)) (distinct-up_to same_node (lent_node cells) node-equality count)

  pub redundant : (count i : ℕ) → i < count → reduced_at i ≡ false → reduced_nodes cells count ≡ false
  redundant count i h e = reduced-tests count ∙ rw (all-up_to-fails reduced_at count i h e)

  pub not_new : (count i : ℕ) → i < count → is_new cells i ≡ false → reduced_nodes cells count ≡ false
  not_new count i h e =
      reduced-tests count ∙ rw (all-up_to-fails (is_new cells) count i h e) (and-false (all reduced_at (up_to count)))

  pub all-reduced : (count i : ℕ) → i ≡ count → all reduced_at (up_to i) ≡ true → all (is_new cells) (up_to i) ≡ true
      → reduced_nodes cells count ≡ true
  all-reduced count i h r s = reduced-tests count ∙ rw (← h, r, s)
