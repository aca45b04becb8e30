-- The walk over the levels: what is known at each, and that it decides the numbering.
-- Assumes nothing.
use mathlib.Core.Path.{◌≡◌, sym, ap, ap₂, ◌∙◌}
use mathlib.Core.Bool.{Bool, true, false}
use mathlib.Core.List.{List, [], ◌∷◌, ◌++◌}
use Prim.Native.Nat.{ℕ, suc, ◌+◌, ◌*◌, ◌-◌, ◌/◌, ◌≤◌, ◌<◌}
use native.Mathlib.Omega.{arith}
use borrow.Author.Tests.{ltb-true, ltb-false}
use lib.Dec.{T, eqb, ltb, ltb→lt, lt→ltb}
use lib.ListN.{length, get_or, take}
use Rattle.std.proofs.Common.{Some, None}
use Rattle.lists.specs.Lists.{all, firsts}
use Rattle.lists.proofs.Bools.{split, and_T, and_l, and_r}
use Rattle.lists.proofs.Lists.Membership.{eqb-equality, all-has, has_all, firsts-has, all_append}
use Rattle.diagram.specs.Networks.Bound.{most_nodes}
use Rattle.diagram.specs.Canonical.Structure.{targets, all_targets, numbered}
use Rattle.lent.specs.Lent.{lent_node, lent_cells}
use Rattle.canonical.specs.Inner.Walk.{stands_at, lent_spread, Own, is_below, followed}
use Rattle.canonical.proofs.Numbering.{numbered-end, numbered-broken, numbered_next, after-bound}
use Rattle.canonical.proofs.Spread.{targets-none, targets-one}

-- the test of the numbering of the first `count` cells
abbrev pub rises : ℕ → List ℕ → ℕ → List ℕ → ℕ → Bool
rises count cells n roots m = numbered true (lent_cells count cells) n 0 0 (firsts eqb (all_targets true (take m roots)))

-- nodes of the first `count` cells

targets-below : (count r : ℕ) → r ≤ count + count + 1 → T (all (is_below count) (targets true r))
targets-below count r h =
    split (ltb r 2) (λ q. rw (targets-none r (ltb-true r 2 q)) tt)
    (λ q. let k : 2 ≤ r = ltb-false r 2 q in
    rw (targets-one r k) (and_T (is_below count (r / 2 - 1)) true (lt→ltb (r / 2 - 1) count (omega arith)) tt))

firsts-below : (count : ℕ) (ks : List ℕ) → T (all (is_below count) ks) → T (all (is_below count) (firsts eqb ks))
firsts-below count ks t =
    has_all eqb eqb-equality (is_below count) (firsts eqb ks)
    (λ k h. all-has eqb eqb-equality (is_below count) ks t k (firsts-has eqb eqb-equality k ks h))

roots-below : (count : ℕ) (roots : List ℕ) → ((j : ℕ) → j < length roots → get_or roots j 0 ≤ count + count + 1)
    → T (all (is_below count) (all_targets true roots))
roots-below count [] h = tt
roots-below count (r ∷ roots) h =
    all_append (is_below count) (targets true r) (all_targets true roots) (targets-below count r (h 0 (omega arith)))
    (roots-below count roots (λ j k. h (suc j) (omega arith)))

module _ (count : ℕ) (cells : List ℕ) (own : Own count cells) where
  spread-below : (p : ℕ) (ks : List ℕ) → T (all (is_below count) ks) → T (all (is_below count) (lent_spread cells p ks))
  spread-below p [] t = tt
  spread-below p (k ∷ ks) t =
      let h : k < count = ltb→lt k count (and_l (is_below count k) (all (is_below count) ks) t) in
      let more = spread-below p ks (and_r (is_below count k) (all (is_below count) ks) t) in
      let b = is_below count in
      let low = targets true (lent_node cells k).low in
      let high = targets true (lent_node cells k).high in
      split (stands_at cells p k)
      (λ q. rw q (all_append b low (high ++ lent_spread cells p ks) (targets-below count (lent_node cells k).low (own.low k h))
      (all_append b high (lent_spread cells p ks) (targets-below count (lent_node cells k).high (own.high k h)) more)))
      (λ q. rw q (and_T (b k) (all b (lent_spread cells p ks)) (lt→ltb k count h) more))

-- at level p: the list is that of the nodes seen there, and what is left of the numbering's test is the whole of it
pub record Walked (count : ℕ) (cells : List ℕ) (n : ℕ) (roots : List ℕ) (m : ℕ) (below : List ℕ) (next p : ℕ) : Type 0 where
  pub deep : p ≤ n
  pub within : T (all (is_below count) below)
  pub bounded : next ≤ p * most_nodes
  pub left : numbered true (lent_cells count cells) (n - p) p next below ≡ rises count cells n roots m

module _ (count : ℕ) (cells : List ℕ) (n : ℕ) (roots : List ℕ) (m : ℕ) where
  pub walked-start : ((j : ℕ) → j < length (take m roots) → get_or (take m roots) j 0 ≤ count + count + 1) → (below : List ℕ)
      → below ≡ firsts eqb (all_targets true (take m roots)) → Walked count cells n roots m below 0 0
  walked-start own below e =
      let d : n - 0 ≡ n = omega arith in
      record {
        deep = omega arith;
        within = rw e (firsts-below count (all_targets true (take m roots)) (roots-below count (take m roots) own));
        bounded = omega arith;
        left = ap₂ (λ (d : ℕ) (ks : List ℕ). numbered true (lent_cells count cells) d 0 0 ks) d e;
      }

  module _ (below : List ℕ) (next p : ℕ) (W : Walked count cells n roots m below next p) where
    pub walked-end : n ≤ p → eqb next count ≡ rises count cells n roots m
    walked-end h =
        let e : n - p ≡ 0 = omega (arith, W.deep) in
        numbered-end count cells p next below
        ∙ ap (λ (d : ℕ). numbered true (lent_cells count cells) d p next below) (sym e) ∙ W.left

    module _ (h : p < n) where
      more : numbered true (lent_cells count cells) (suc (n - suc p)) p next below ≡ rises count cells n roots m
      more =
          let e : suc (n - suc p) ≡ n - p = omega arith in
          ap (λ (d : ℕ). numbered true (lent_cells count cells) d p next below) e ∙ W.left

      pub walked-broken : followed cells p next below ≡ None → false ≡ rises count cells n roots m
      walked-broken f = sym (numbered-broken count cells p next (n - suc p) below W.within f) ∙ more

      pub walked-next : Own count cells → length below ≤ most_nodes → (after : ℕ) → followed cells p next below ≡ Some after
          → (below' : List ℕ) → below' ≡ firsts eqb (lent_spread cells p below) → Walked count cells n roots m below' after (p + 1)
      walked-next own few after f below' e =
          let q : suc p ≡ p + 1 = omega arith in
          let d : n - suc p ≡ n - (p + 1) = omega arith in
          record {
            deep = omega arith;
            within = rw e (firsts-below count (lent_spread cells p below) (spread-below count cells own p below W.within));
            bounded = omega (arith, W.bounded, after-bound cells p next after below f);
            left = ap (numbered true (lent_cells count cells) (n - (p + 1)) (p + 1) after) e
                ∙ ap₂ (λ (a b : ℕ). numbered true (lent_cells count cells) a b after (firsts eqb (lent_spread cells p below))) (sym d) (sym q)
                ∙ sym (numbered_next count cells p next (n - suc p) below W.within after f) ∙ more;
          }
