-- The structure of lent cells, by its tests; and what a well-formed diagram says of the edges and the roots.
-- Assumes nothing.
use mathlib.Core.Path.{◌≡◌, refl, sym, ap, ◌∙◌, subst}
use mathlib.Core.Bool.{Bool, true, false, ◌&&◌, and_assoc}
use mathlib.Core.List.{List}
use mathlib.Core.Logic.{⊎_elim}
use Prim.Native.Nat.{ℕ, ◌+◌, ◌≤◌, ◌<◌}
use native.Mathlib.Omega.{arith}
use lib.Dec.{T, eqb, ltb, ltb→lt}
use lib.ListN.{length, get_or, take}
use lib.Seq.{length-take-le, get_or-take}
use Rattle.lists.specs.Lists.{all, distinct, firsts}
use Rattle.lists.proofs.Bools.{and_l, and_r, or_cases}
use Rattle.lists.proofs.Lists.Membership.{all-at}
use Rattle.lists.proofs.Numbers.Compared.{all-up_to-at}
use Rattle.diagram.specs.Networks.Diagram.{later, refers, node_at, same_node, node_good}
use Rattle.diagram.specs.Canonical.Structure.{node_reduced, all_targets, numbered, structured}
use Rattle.lent.specs.Lent.{number_in, lent_node, lent_cells, lent_diagram}
use Rattle.lent.proofs.Nodes.{all-nodes}
use Rattle.lent.proofs.Tested.{refers-below}
use Rattle.canonical.specs.Inner.Reduced.{lent_nodes, reduced_nodes}
use Rattle.canonical.specs.Inner.Walk.{Own}
use Rattle.canonical.proofs.Numbering.{lent-numbered}
use Rattle.canonical.proofs.Walked.{rises}

module _ (count : ℕ) (cells : List ℕ) where
  -- the two tests
  module _ (n : ℕ) (roots : List ℕ) (m : ℕ) where
    whole : structured true n (lent_diagram count m cells roots)
        ≡ all (node_reduced true) (lent_nodes cells count) && (distinct same_node (lent_nodes cells count)
        && numbered true (lent_diagram count m cells roots) n 0 0 (firsts eqb (all_targets true (take m roots))))
    unfolding structured lent_diagram lent_nodes
    whole = refl

    structured-tests : structured true n (lent_diagram count m cells roots) ≡ reduced_nodes cells count && rises count cells n roots m
    unfolding reduced_nodes
    structured-tests =
        let a = all (node_reduced true) (lent_nodes cells count) in
        let b = distinct same_node (lent_nodes cells count) in
        whole
        ∙ ap (λ (c : Bool). a && (b && c)) (lent-numbered count m cells roots n 0 0 (firsts eqb (all_targets true (take m roots))))
        ∙ sym (and_assoc a b (rises count cells n roots m))

    pub structured-not : reduced_nodes cells count ≡ false → structured true n (lent_diagram count m cells roots) ≡ false
    structured-not e = structured-tests ∙ rw e

    pub structured-rest : reduced_nodes cells count ≡ true
        → structured true n (lent_diagram count m cells roots) ≡ rises count cells n roots m
    structured-rest e = structured-tests ∙ rw e

  -- references of a well-formed diagram

  later-below : (p r : ℕ) → T (later true (lent_cells count cells) p r) → r ≤ count + count + 1
  later-below p r t =
      ⊎_elim (λ q. omega (arith, ltb→lt r 2 q))
      (λ q. refers-below count (number_in cells) r
      (and_l (refers true (lent_cells count cells) r) (ltb p (node_at true (lent_cells count cells) r).level) q))
      (or_cases (ltb r 2) (refers true (lent_cells count cells) r && ltb p (node_at true (lent_cells count cells) r).level) t)

  pub own-edges : (n : ℕ) → T (all (node_good true n (lent_cells count cells)) (lent_cells count cells).nodes) → Own count cells
  own-edges n t =
      record {
        low = λ k h. later-below (lent_node cells k).level (lent_node cells k).low
            (and_l (edge k (lent_node cells k).low) (edge k (lent_node cells k).high) (both k h));
        high = λ k h. later-below (lent_node cells k).level (lent_node cells k).high
            (and_r (edge k (lent_node cells k).low) (edge k (lent_node cells k).high) (both k h));
      }
    where
      edge : ℕ → ℕ → Bool
      edge k r = later true (lent_cells count cells) (lent_node cells k).level r

      both : (k : ℕ) → k < count → T (edge k (lent_node cells k).low && edge k (lent_node cells k).high)
      both k h =
          and_r (ltb (lent_node cells k).level n) _
          (all-up_to-at (λ i. node_good true n (lent_cells count cells) (lent_node cells i)) count
          (subst T (all-nodes count (number_in cells) (node_good true n (lent_cells count cells))) t) k h)

  pub own-roots : (roots : List ℕ) (m : ℕ) → m ≤ length roots → T (all (refers true (lent_cells count cells)) (take m roots))
      → (j : ℕ) → j < m → get_or roots j 0 ≤ count + count + 1
  own-roots roots m f t j h =
      refers-below count (number_in cells) (get_or roots j 0)
      (subst (λ (r : ℕ). T (refers true (lent_cells count cells) r)) (get_or-take m roots j 0 h)
      (all-at (refers true (lent_cells count cells)) (take m roots) t j 0 (omega (arith, length-take-le m roots f))))
