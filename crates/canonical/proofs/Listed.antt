-- A list of nodes with marks: what an arrival leaves, that there is room for it, and an empty list under a new stamp.
-- Assumes nothing.
use mathlib.Core.Path.{◌≡◌, sym, ap, ◌∙◌}
use mathlib.Core.Bool.{Bool, true, false, not, ◌||◌, or-true, or-false}
use mathlib.Core.List.{List, [], ◌∷◌, ◌++◌}
use Prim.Native.Nat.{ℕ, ◌≤◌, ◌<◌}
use native.Mathlib.Omega.{arith}
use borrow.Author.Tests.{eq-eqb, ne_eqb, eqb-true}
use lib.Dec.{T, eqb, lt→ltb}
use lib.ListN.{length, get_or, set, replicate, length-append, get_or-replicate}
use lib.Seq.{get_or-set_same, get_or-set_other}
use Rattle.lists.specs.Lists.{all, has, distinct}
use Rattle.lists.proofs.Bools.{split, to-not, and_T}
use Rattle.lists.proofs.Lists.Membership.{eqb-equality, all_append}
use Rattle.lists.proofs.Numbers.Compared.{differ, few}
use Rattle.lists.proofs.Lists.Grown.{has-append, distinct_more}
use Rattle.diagram.specs.Networks.Bound.{most_nodes}
use Rattle.canonical.specs.Inner.Walk.{arrived, is_below, Listed}
use Rattle.canonical.proofs.Firsts.{arrived-old, arrived-new}

-- an empty list, where none of the marks is as late as the stamp
pub listed-none : (stamp : ℕ) (marks : List ℕ) → ((k : ℕ) → k < most_nodes → get_or marks k 0 < stamp) → Listed stamp [] marks
listed-none stamp marks h = record {
  apart = tt;
  within = tt;
  marked = λ k b. ne_eqb (get_or marks k 0) stamp (λ q. absurd (omega (arith, h k b)));
  stamped = λ k b. omega (arith, h k b);
}

pub listed-zeros : Listed 1 [] (replicate most_nodes 0)
listed-zeros = listed-none 1 (replicate most_nodes 0) (λ k b. omega (arith, get_or-replicate {A = ℕ} most_nodes k 0 0 b))

module _ (stamp : ℕ) (ks marks : List ℕ) (L : Listed stamp ks marks) where
  module _ (k : ℕ) (b : k < most_nodes) where
    module _ (n : get_or marks k 0 ≡ stamp → ⊥) where
      new : has eqb k ks ≡ false
      new = sym (L.marked k b) ∙ ne_eqb (get_or marks k 0) stamp n

      pub arrive-new : ks ++ (k ∷ []) ≡ arrived ks k
      arrive-new = sym (arrived-new ks k new)

      apart_more : T (distinct eqb (ks ++ (k ∷ [])))
      apart_more =
          rw (distinct_more eqb eqb-equality ks k) (and_T (distinct eqb ks) (not (has eqb k ks)) L.apart (to-not new))

      within_more : T (all (is_below most_nodes) (ks ++ (k ∷ [])))
      within_more =
          all_append (is_below most_nodes) ks (k ∷ []) L.within (and_T (is_below most_nodes k) true (lt→ltb k most_nodes b) tt)

      -- distinct numbers below the number of marks leave room for one more
      pub arrive-room : length ks < most_nodes
      arrive-room = omega (arith, few most_nodes (ks ++ (k ∷ [])) apart_more within_more, length-append ks (k ∷ []))

      module _ (long : length marks ≡ most_nodes) where
        at-mark : get_or (set marks k stamp) k 0 ≡ stamp
        at-mark = get_or-set_same marks k stamp 0 (omega (arith, long, b))

        marked_more : (j : ℕ) → j < most_nodes → eqb (get_or (set marks k stamp) j 0) stamp ≡ has eqb j (ks ++ (k ∷ []))
        marked_more j h =
            split (eqb j k)
            (λ e. eq-eqb (get_or (set marks k stamp) j 0) stamp
            (ap (λ (i : ℕ). get_or (set marks k stamp) i 0) (eqb-true j k e) ∙ at-mark)
            ∙ sym (has-append eqb j ks (k ∷ []) ∙ ap (λ (c : Bool). has eqb j ks || (c || false)) e ∙ or-true (has eqb j ks)))
            (λ e. ap (λ (x : ℕ). eqb x stamp) (get_or-set_other marks k j stamp 0 (differ j k e)) ∙ L.marked j h
            ∙ sym (has-append eqb j ks (k ∷ []) ∙ ap (λ (c : Bool). has eqb j ks || (c || false)) e ∙ or-false (has eqb j ks)))

        stamped-more : (j : ℕ) → j < most_nodes → get_or (set marks k stamp) j 0 ≤ stamp
        stamped-more j h =
            split (eqb j k)
            (λ e. omega (arith, ap (λ (i : ℕ). get_or (set marks k stamp) i 0) (eqb-true j k e) ∙ at-mark))
            (λ e. omega (arith, get_or-set_other marks k j stamp 0 (differ j k e), L.stamped j h))

        pub listed-more : Listed stamp (ks ++ (k ∷ [])) (set marks k stamp)
        listed-more = record { apart = apart_more; within = within_more; marked = marked_more; stamped = stamped-more }
