-- The network of its own roots' functions is numbered by the walk.
-- Assumes nothing.
use mathlib.Core.Path.{◌≡◌, sym, ap, ◌∙◌, subst}
use mathlib.Core.Bool.{Bool, false}
use mathlib.Core.List.{List, map, append-nil}
use Prim.Native.Nat.{ℕ, zero, suc, ◌+◌, ◌<◌}
use native.Mathlib.Omega.{arith}
use lib.Dec.{T, eqb, eqb_refl}
use lib.ListN.{length, get_or, length-map}
use lib.Seq.{ext_get_or}
use Rattle.lists.specs.Lists.{all, has, index, firsts, equal}
use Rattle.lists.proofs.Lists.Equal.{numbers-equality}
use Rattle.lists.proofs.Bools.{of_T, and_T}
use Rattle.lists.proofs.Lists.Membership.{eqb-equality, all-has, keep-has, has_get_d, index-get_or, get_d_map}
use Rattle.lists.proofs.Numbers.UpTo.{length-map-up_to, get_or-map-up_to}
use Rattle.diagram.specs.Tree.{Tree, halves, full, first, same}
use Rattle.diagram.specs.Networks.Diagram.{Diagram, target, refers}
use Rattle.diagram.specs.Networks.Network.{classes, reference, refer, nodes, network}
use Rattle.diagram.specs.Canonical.Structure.{at_level, all_targets, spread, standing, range, numbered}
use Rattle.diagram.proofs.Tree.{same-equality}
use Rattle.diagram.proofs.Networks.Classes.{classes-distinct, classes-depend, classes-normal}
use Rattle.diagram.proofs.Networks.Known.{class-known, refer-depends}
use Rattle.diagram.proofs.Networks.Reference.{target-reference}
use Rattle.diagram.proofs.Networks.Right.{Holds, holds-below, from-refer, network-holds}
use Rattle.diagram.proofs.Networks.Function.{function, function-refer}
use Rattle.diagram.proofs.Canonical.Reduced.{Reduced, function_of, function-injective}
use Rattle.diagram.proofs.Canonical.Walk.{node_from, Seen, seen-top, seen_below, seen-classes}

module _ (inv : Bool) (n : ℕ) (D : Diagram) (w : Reduced inv n D) where
  -- a node that stands at level p and whose function is the class with index i has number base + i
  node-number : (d p base : ℕ) (ts : List (Tree Bool (suc d))) (i k : ℕ) → p + suc d ≡ n → Holds inv D (suc d) p base ts
      → i < length (classes inv ts) → T (node_from inv D p k)
      → get_or (classes inv ts) i (full false (suc d)) ≡ function_of inv D (suc d) p k
      → k ≡ base + i
  node-number d p base ts i k e h l t q =
      let x = get_or (classes inv ts) i (full false (suc d)) in
      let m : T (has same x (classes inv ts)) = has_get_d same same-equality (classes inv ts) i (full false (suc d)) l in
      let known = class-known inv ts x m in
      let r = refer inv (suc d) base ts x in
      let named : r ≡ reference inv (base + i) (first x) =
      refer-depends inv base ts x (of_T (classes-depend inv ts x m))
      ∙ ap (λ j. reference inv (base + j) (first x)) (ap (λ y. index same y (classes inv ts)) (classes-normal inv ts x m)
      ∙ index-get_or same same-equality (classes inv ts) i (full false (suc d)) (classes-distinct inv ts) l) in
      let found : r ≡ reference inv k false =
      function-injective inv n D w (suc d) p r (reference inv k false) e (from-refer inv D (suc d) p base ts x h known) t
      (function-refer inv n D w.good (suc d) p base ts x e h known ∙ q) in
      sym (target-reference inv k false) ∙ ap (target inv) (sym found ∙ named) ∙ target-reference inv (base + i) (first x)

  -- those that stand at a level are the next ones
  standing-range : (d p base : ℕ) (ts : List (Tree Bool (suc d))) (ks : List ℕ) → p + suc d ≡ n → Holds inv D (suc d) p base ts
      → Seen inv D (suc d) p ts ks → standing inv D p ks ≡ range base (length (standing inv D p ks))
  standing-range d p base ts ks e h s =
      let S = standing inv D p ks in
      let c : classes inv ts ≡ map (function_of inv D (suc d) p) S = seen-classes inv n D w d p ts ks e s in
      let l : length (classes inv ts) ≡ length S = ap length c ∙ length-map S (function_of inv D (suc d) p) in
      ext_get_or 0 S (range base (length S)) (sym (length-map-up_to (λ i. base + i) (length S)))
      (λ i b. let k = get_or S i 0 in
      let m = keep-has eqb eqb-equality (at_level inv D p) k ks (has_get_d eqb eqb-equality S i 0 b) in
      node-number d p base ts i k e h (subst (λ j. i < j) (sym l) b)
      (all-has eqb eqb-equality (node_from inv D p) ks s.own k m.0)
      (ap (λ (y : List (Tree Bool (suc d))). get_or y i (full false (suc d))) c
      ∙ get_d_map (function_of inv D (suc d) p) S i 0 (full false (suc d)) b)
      ∙ sym (get_or-map-up_to (λ j. base + j) (length S) i 0 b))

  walk-numbered : (d p base : ℕ) (ts : List (Tree Bool d)) (ks : List ℕ) → p + d ≡ n → Holds inv D d p base ts → Seen inv D d p ts ks
      → T (numbered inv D d p base ks)
  unfolding numbered nodes
  walk-numbered zero p base ts ks e h s =
      subst (λ l. T (eqb base l)) (sym h.depth ∙ ap length (sym (h.split_at ∙ append-nil h.before))) (eqb_refl base)
  walk-numbered (suc d) p base ts ks e h s =
      let S = standing inv D p ks in
      let l : length (classes inv ts) ≡ length S =
      ap length (seen-classes inv n D w d p ts ks e s) ∙ length-map S (function_of inv D (suc d) p) in
      and_T (equal eqb S (range base (length S))) (numbered inv D d (suc p) (base + length S) (firsts eqb (spread inv D p ks)))
      (subst (λ (y : List ℕ). T (equal eqb S y)) (standing-range d p base ts ks e h s) (numbers-equality.self S))
      (walk-numbered d (suc p) (base + length S) (halves ts) (firsts eqb (spread inv D p ks)) (omega arith)
      (subst (λ j. Holds inv D d (suc p) (base + j) (halves ts)) l (holds-below inv D d p base ts h))
      (seen_below inv n D w d p ts ks e s))

pub network-numbered : (inv : Bool) (n : ℕ) (D : Diagram) → Reduced inv n D → T (all (refers inv D) D.roots)
    → network inv n (map (function inv D n 0) D.roots) ≡ D
    → T (numbered inv D n 0 0 (firsts eqb (all_targets inv D.roots)))
network-numbered inv n D w own e =
    let ts = map (function inv D n 0) D.roots in
    walk-numbered inv n D w n 0 0 ts (firsts eqb (all_targets inv D.roots)) (omega arith)
    (subst (λ E. Holds inv E n 0 0 ts) e (network-holds inv n ts)) (seen-top inv n D w D.roots own)
