-- The walk over the nodes seen first, level by level, follows the functions seen first: at each level the classes of the segments are the
-- functions of the nodes that stand there, in the walk's sequence.
-- Assumes nothing.
use mathlib.Core.Path.{◌≡◌, refl, sym, ap, ap₂, ◌∙◌, subst}
use mathlib.Core.Bool.{Bool, true, false, not, cond, ◌&&◌}
use mathlib.Core.List.{List, [], ◌∷◌, ◌++◌, map}
use Prim.Native.Nat.{ℕ, suc, ◌+◌, ◌≤◌, zero-le}
use native.Mathlib.Omega.{arith}
use lib.Dec.{T, eqb, ltb, nltb→le}
use lib.ListN.{length}
use Rattle.lists.specs.Lists.{all, keep, has, firsts, distinct}
use Rattle.lists.proofs.Bools.{both_ways, split, to-T, to-not, and_T, and_l, and_r}
use Rattle.lists.proofs.Lists.Membership.{eqb-equality, all-has, distinct-firsts, has-map, map-has}
use Rattle.lists.proofs.Lists.Less.{keep_all, less, less-more, less-again, keep-map, all_firsts, firsts-behind, firsts-again}
use Rattle.diagram.specs.Tree.{Tree, half, halves, inverted, first, same}
use Rattle.diagram.specs.Networks.Diagram.{Diagram, edge, target, refers}
use Rattle.diagram.specs.Networks.Network.{depends, normal, classes, reference}
use Rattle.diagram.specs.Canonical.Structure.{node_on, at_level, targets, all_targets, spread, standing}
use Rattle.diagram.proofs.Tree.{same-equality, inverted-false, depends-normal, normal-normal}
use Rattle.diagram.proofs.Tracing.FirstSeen.{is_new, fresh, seen-steady, seen-has, new-inverted, fresh-seen, fresh-new, fresh-halves}
use Rattle.diagram.proofs.Tracing.SeenClasses.{classes-fresh}
use Rattle.diagram.proofs.Networks.Known.{half-normal}
use Rattle.diagram.proofs.Networks.Reference.{not-below, target-reference, reference-big, reference-largest, target-lt}
use Rattle.diagram.proofs.Networks.Reference.{from, from-node, from-reached, from-constant}
use Rattle.diagram.proofs.Networks.Function.{here, function, from_next}
use Rattle.diagram.proofs.Canonical.Reduced.{Reduced, function_of, half-here, half-past, function-injective, depends-here, varies-function}
use Rattle.diagram.proofs.Canonical.Reduced.{normal-function, node-plain, node-target, edge_here}

-- the reference to node k is from level p on
abbrev pub node_from : Bool → Diagram → ℕ → ℕ → Bool
node_from inv D p k = from inv D p (reference inv k false)

-- the nodes ks are those of the functions of ts that are seen first, in sequence, each once
pub record Seen (inv : Bool) (D : Diagram) (d p : ℕ) (ts : List (Tree Bool d)) (ks : List ℕ) : Type 0 where
  pub follows : map (normal inv) (fresh inv [] ts) ≡ map (function_of inv D d p) ks
  pub own : T (all (node_from inv D p) ks)
  pub once : T (distinct eqb ks)

-- the functions seen first, up to their classes

fresh-normal : {d : ℕ} (inv : Bool) (gs ts : List (Tree Bool d)) → map (normal inv) (fresh inv gs ts) ≡ fresh inv gs (map (normal inv) ts)
fresh-normal inv gs [] = refl
fresh-normal {d} inv gs (t ∷ ts) =
    let m : is_new inv gs (normal inv t) ≡ is_new inv gs t = new-inverted inv (first t) gs t in
    split (is_new inv gs t)
    (λ e. ap (map (normal inv)) (fresh-new inv gs t ts e)
    ∙ ap (λ (l : List (Tree Bool d)). normal inv t ∷ l) (fresh-normal inv (normal inv t ∷ gs) ts
    ∙ ap (λ (u : Tree Bool d). fresh inv (u ∷ gs) (map (normal inv) ts)) (sym (normal-normal inv t)))
    ∙ sym (fresh-new inv gs (normal inv t) (map (normal inv) ts) (m ∙ e)))
    (λ e. ap (map (normal inv)) (fresh-seen inv gs t ts e) ∙ fresh-normal inv gs ts
    ∙ sym (fresh-seen inv gs (normal inv t) (map (normal inv) ts) (m ∙ e)))

halves-normal : {d : ℕ} (inv : Bool) (ts : List (Tree Bool (suc d)))
    → map (normal inv) (halves ts) ≡ map (normal inv) (halves (map (normal inv) ts))
halves-normal inv [] = refl
halves-normal {d} inv (t ∷ ts) =
    ap₂ (λ (u : Tree Bool d) (l : List (Tree Bool d)). u ∷ l) (sym (half-normal inv false t))
    (ap₂ (λ (u : Tree Bool d) (l : List (Tree Bool d)). u ∷ l) (sym (half-normal inv true t)) (halves-normal inv ts))

-- of halves, by the classes of the functions seen first
halves-seen : {d : ℕ} (inv : Bool) (ts us : List (Tree Bool (suc d))) → map (normal inv) (fresh inv [] ts) ≡ us
    → map (normal inv) (fresh inv [] (halves ts)) ≡ map (normal inv) (fresh inv [] (halves us))
halves-seen inv ts us e =
    ap (map (normal inv)) (fresh-halves inv [] [] ts (λ b t h. absurd h))
    ∙ fresh-normal inv [] (halves (fresh inv [] ts))
    ∙ ap (fresh inv []) (halves-normal inv (fresh inv [] ts) ∙ ap (λ l. map (normal inv) (halves l)) e)
    ∙ sym (fresh-normal inv [] (halves us))

-- references to nodes

reference-injective : (inv : Bool) (j k : ℕ) → reference inv j false ≡ reference inv k false → j ≡ k
reference-injective inv j k e = sym (target-reference inv j false) ∙ ap (target inv) e ∙ target-reference inv k false

targets-reference : (inv : Bool) (k : ℕ) → targets inv (reference inv k false) ≡ k ∷ []
targets-reference inv k =
    rw (not-below (reference inv k false) 2 (reference-big inv k false)) (ap (λ (j : ℕ). j ∷ []) (target-reference inv k false))

here-reference : (inv : Bool) (D : Diagram) (p k : ℕ) → here inv D p (reference inv k false) ≡ at_level inv D p k
here-reference inv D p k =
    ap (λ b. not b && at_level inv D p k) (not-below (reference inv k false) 2 (reference-big inv k false))

-- the node that a reference is to
from-target : (inv : Bool) (D : Diagram) (p r : ℕ) → T (from inv D p r) → ltb r 2 ≡ false → T (node_from inv D p (target inv r))
from-target inv D p r t e =
    let a = from-reached inv D p r t e in
    let k = target inv r in
    from-node inv D p (reference inv k false)
    (reference-largest inv k false (length D.nodes) (target-lt inv r (length D.nodes) (nltb→le r 2 (to-not e)) a.own))
    (subst (λ c. p ≤ c.level) (sym (node-target inv D r)) a.deep)

from-targets : (inv : Bool) (D : Diagram) (p : ℕ) (rs : List ℕ) → T (all (from inv D p) rs) → T (all (node_from inv D p) (all_targets inv rs))
from-targets inv D p [] t = tt
from-targets inv D p (r ∷ rs) t =
    let a = and_l (from inv D p r) (all (from inv D p) rs) t in
    let b = from-targets inv D p rs (and_r (from inv D p r) (all (from inv D p) rs) t) in
    split (ltb r 2) (λ e. rw e b)
    (λ e. rw e (and_T (node_from inv D p (target inv r)) (all (node_from inv D p) (all_targets inv rs)) (from-target inv D p r a e) b))

-- what the nodes ks are below level p, as references: one that stands there is its two edges, any other is itself, twice
abbrev parts : Bool → Diagram → ℕ → List ℕ → List ℕ
parts inv D p [] = []
parts inv D p (k ∷ ks) =
    cond (at_level inv D p k) ((node_on inv D k).low ∷ (node_on inv D k).high ∷ parts inv D p ks)
    (reference inv k false ∷ reference inv k false ∷ parts inv D p ks)

-- their targets are those of the spread nodes, some twice in a row
firsts-parts : (inv : Bool) (D : Diagram) (p : ℕ) (ks : List ℕ)
    → firsts eqb (all_targets inv (parts inv D p ks)) ≡ firsts eqb (spread inv D p ks)
firsts-parts inv D p [] = refl
firsts-parts inv D p (k ∷ ks) =
    let c = node_on inv D k in
    let r = reference inv k false in
    let A = all_targets inv (parts inv D p ks) in
    let S = spread inv D p ks in
    let below : firsts eqb A ≡ firsts eqb S = firsts-parts inv D p ks in
    split (at_level inv D p k)
    (λ e. rw e
    (firsts-behind eqb eqb-equality (targets inv c.low) (targets inv c.high ++ A) (targets inv c.high ++ S)
    (firsts-behind eqb eqb-equality (targets inv c.high) A S below)))
    (λ e. rw e
    (ap (λ (l : List ℕ). firsts eqb (l ++ (l ++ A))) (targets-reference inv k)
    ∙ firsts-again eqb eqb-equality k A ∙ firsts-behind eqb eqb-equality (k ∷ []) A S below))

module _ (inv : Bool) (n : ℕ) (D : Diagram) (w : Reduced inv n D) where
  -- a node's function stands among those of the nodes gs where the node does
  has-function_of : (d p k : ℕ) (gs : List ℕ) → p + d ≡ n → T (node_from inv D p k) → T (all (node_from inv D p) gs)
      → has same (function_of inv D d p k) (map (function_of inv D d p) gs) ≡ has eqb k gs
  has-function_of d p k gs e t g =
      both_ways (has same (function_of inv D d p k) (map (function_of inv D d p) gs)) (has eqb k gs)
      (λ h. let r = map-has eqb eqb-equality same same-equality (function_of inv D d p) (function_of inv D d p k) gs h in
      let j = r.0 in
      let u : T (node_from inv D p j) = all-has eqb eqb-equality (node_from inv D p) gs g j r.1 in
      subst (λ i. T (has eqb i gs))
      (reference-injective inv j k (function-injective inv n D w d p (reference inv j false) (reference inv k false) e u t r.2)) r.1)
      (λ h. has-map eqb eqb-equality same same-equality (function_of inv D d p) k gs h)

  -- the functions of references that are seen first are those of the nodes that the references are to, each once
  fresh-references : (d p : ℕ) (gs rs : List ℕ) → p + d ≡ n → T (all (node_from inv D p) gs) → T (all (from inv D p) rs)
      → map (normal inv) (fresh inv (map (function_of inv D d p) gs) (map (function inv D d p) rs))
      ≡ map (function_of inv D d p) (less eqb gs (firsts eqb (all_targets inv rs)))
  fresh-references d p gs [] e g t = refl
  fresh-references d p gs (r ∷ rs) e g t =
      let a = and_l (from inv D p r) (all (from inv D p) rs) t in
      let b = and_r (from inv D p r) (all (from inv D p) rs) t in
      let f = function inv D d p r in
      let G = map (function_of inv D d p) gs in
      let R = map (function inv D d p) rs in
      let F = firsts eqb (all_targets inv rs) in
      let k = target inv r in
      split (ltb r 2)
      (λ q. ap (map (normal inv)) (fresh-seen inv G f R (seen-steady inv G f (varies-function inv n D w d p r e a ∙ ap not q)))
      ∙ rw q (fresh-references d p gs rs e g b))
      (λ q. let own : T (node_from inv D p k) = from-target inv D p r a q in
      let nf : normal inv f ≡ function_of inv D d p k = normal-function inv n D w d p r e a q in
      let m : has same (normal inv f) G ≡ has eqb k gs = ap (λ u. has same u G) nf ∙ has-function_of d p k gs e own g in
      split (has eqb k gs)
      (λ h. ap (map (normal inv)) (fresh-seen inv G f R (seen-has inv G f (to-T (m ∙ h))))
      ∙ rw (q, h) (fresh-references d p gs rs e g b
      ∙ ap (map (function_of inv D d p)) (sym (less-more eqb eqb-equality k gs F ∙ less-again eqb eqb-equality k gs F (to-T h)))))
      (λ h. ap (map (normal inv))
      (fresh-new inv G f R (ap₂ (λ x y. x && not y) (varies-function inv n D w d p r e a ∙ ap not q) (m ∙ h)))
      ∙ ap (λ u. u ∷ map (normal inv) (fresh inv (u ∷ G) R)) nf
      ∙ rw (q, h) (ap (λ (l : List (Tree Bool d)). function_of inv D d p k ∷ l)
      (fresh-references d p (k ∷ gs) rs e (and_T (node_from inv D p k) (all (node_from inv D p) gs) own g) b
      ∙ ap (map (function_of inv D d p)) (sym (less-more eqb eqb-equality k gs F))))))

  seen-references : (d p : ℕ) (rs : List ℕ) → p + d ≡ n → T (all (from inv D p) rs)
      → Seen inv D d p (map (function inv D d p) rs) (firsts eqb (all_targets inv rs))
  seen-references d p rs e t =
      record {
        follows =
            fresh-references d p [] rs e tt t ∙ ap (map (function_of inv D d p)) (keep_all (firsts eqb (all_targets inv rs)));
        own = all_firsts eqb eqb-equality (node_from inv D p) (all_targets inv rs) (from-targets inv D p rs t);
        once = distinct-firsts eqb eqb-equality (all_targets inv rs);
      }

  -- at the top, of references rs
  pub seen-top : (rs : List ℕ) → T (all (refers inv D) rs)
      → Seen inv D n 0 (map (function inv D n 0) rs) (firsts eqb (all_targets inv rs))
  seen-top rs t = seen-references n 0 rs (omega arith) (above rs t)
    where
      above : (ss : List ℕ) → T (all (refers inv D) ss) → T (all (from inv D 0) ss)
      above [] s = tt
      above (r ∷ ss) s =
          and_T (from inv D 0 r) (all (from inv D 0) ss)
          (split (ltb r 2) (from-constant inv D 0 r)
          (λ q. from-node inv D 0 r (and_l (refers inv D r) (all (refers inv D) ss) s) zero-le))
          (above ss (and_r (refers inv D r) (all (refers inv D) ss) s))

  -- the halves of nodes' functions are the functions of their parts
  half-reference : (b : Bool) (d p k : ℕ) → at_level inv D p k ≡ true
      → half b (function_of inv D (suc d) p k) ≡ function inv D d (suc p) (edge b (node_on inv D k))
  half-reference b d p k e =
      let r = reference inv k false in
      half-here inv n D w b d p r (here-reference inv D p k ∙ e)
      ∙ ap (λ i. inverted i (function inv D d (suc p) (edge b (node_on inv D k)))) (node-plain inv k)
      ∙ inverted-false (function inv D d (suc p) (edge b (node_on inv D k)))

  half-other : (b : Bool) (d p k : ℕ) → at_level inv D p k ≡ false
      → half b (function_of inv D (suc d) p k) ≡ function_of inv D d (suc p) k
  half-other b d p k e = half-past inv n D w b d p (reference inv k false) (here-reference inv D p k ∙ e)

  halves_parts : (d p : ℕ) (ks : List ℕ)
      → halves (map (function_of inv D (suc d) p) ks) ≡ map (function inv D d (suc p)) (parts inv D p ks)
  halves_parts d p [] = refl
  halves_parts d p (k ∷ ks) =
      let both : (f g : ℕ) → half false (function_of inv D (suc d) p k) ≡ function inv D d (suc p) f
      → half true (function_of inv D (suc d) p k) ≡ function inv D d (suc p) g
      → halves (map (function_of inv D (suc d) p) (k ∷ ks)) ≡ map (function inv D d (suc p)) (f ∷ g ∷ parts inv D p ks) =
      λ f g x y. ap₂ (λ (u : Tree Bool d) (l : List (Tree Bool d)). u ∷ l) x
      (ap₂ (λ (u : Tree Bool d) (l : List (Tree Bool d)). u ∷ l) y (halves_parts d p ks)) in
      split (at_level inv D p k)
      (λ e. both (node_on inv D k).low (node_on inv D k).high (half-reference false d p k e) (half-reference true d p k e)
      ∙ rw e)
      (λ e. both (reference inv k false) (reference inv k false) (half-other false d p k e) (half-other true d p k e)
      ∙ rw e)

  from_parts : (p : ℕ) (ks : List ℕ) → T (all (node_from inv D p) ks) → T (all (from inv D (suc p)) (parts inv D p ks))
  from_parts p [] t = tt
  from_parts p (k ∷ ks) t =
      let r = reference inv k false in
      let a = and_l (node_from inv D p k) (all (node_from inv D p) ks) t in
      let rest = from_parts p ks (and_r (node_from inv D p k) (all (node_from inv D p) ks) t) in
      let both : (f g : ℕ) → T (from inv D (suc p) f) → T (from inv D (suc p) g) → T (all (from inv D (suc p)) (f ∷ g ∷ parts inv D p ks)) =
      λ f g x y. and_T (from inv D (suc p) f) (all (from inv D (suc p)) (g ∷ parts inv D p ks)) x
      (and_T (from inv D (suc p) g) (all (from inv D (suc p)) (parts inv D p ks)) y rest) in
      split (at_level inv D p k)
      (λ e. let down : (b : Bool) → T (from inv D (suc p) (edge b (node_on inv D k))) =
      λ b. edge_here inv n D w b p r a (here-reference inv D p k ∙ e) in
      rw e (both (node_on inv D k).low (node_on inv D k).high (down false) (down true)))
      (λ e. let x = from_next inv n D w.good p r a (here-reference inv D p k ∙ e) in
      rw e (both r r x x))

  -- a level down
  pub seen_below : (d p : ℕ) (ts : List (Tree Bool (suc d))) (ks : List ℕ) → p + suc d ≡ n → Seen inv D (suc d) p ts ks
      → Seen inv D d (suc p) (halves ts) (firsts eqb (spread inv D p ks))
  seen_below d p ts ks e s =
      let S = seen-references d (suc p) (parts inv D p ks) (omega arith) (from_parts p ks s.own) in
      subst (Seen inv D d (suc p) (halves ts)) (firsts-parts inv D p ks)
      (record {
        follows =
            halves-seen inv ts (map (function_of inv D (suc d) p) ks) s.follows
            ∙ ap (λ l. map (normal inv) (fresh inv [] l)) (halves_parts d p ks) ∙ S.follows;
        own = S.own;
        once = S.once;
      })

  -- the classes of a level are the functions of the nodes that stand there
  pub seen-classes : (d p : ℕ) (ts : List (Tree Bool (suc d))) (ks : List ℕ) → p + suc d ≡ n → Seen inv D (suc d) p ts ks
      → classes inv ts ≡ map (function_of inv D (suc d) p) (standing inv D p ks)
  seen-classes d p ts ks e s =
      classes-fresh inv ts
      ∙ sym (keep-map same same-equality depends depends (normal inv) (fresh inv [] ts) (λ t _. depends-normal inv t))
      ∙ ap (keep depends) s.follows
      ∙ keep-map eqb eqb-equality depends (at_level inv D p) (function_of inv D (suc d) p) ks
      (λ k h. depends-here inv n D w d p (reference inv k false) e (all-has eqb eqb-equality (node_from inv D p) ks s.own k h)
      ∙ here-reference inv D p k)
