-- A diagram whose nodes are reduced and numbered by the walk is the network of the functions of its roots.
-- Level by level: the classes are the functions of the nodes that stand there, and those nodes are the next in the list; so a function's
-- reference is the reference that computes it, and the nodes from a level on are the list's from their first number on.
-- Assumes nothing.
use mathlib.Core.Path.{◌≡◌, refl, sym, ap, ap₂, ◌∙◌, subst}
use mathlib.Core.Bool.{Bool, true, false, not, ◌&&◌}
use mathlib.Core.List.{List, ◌++◌, map, map-map, map-id}
use Prim.Native.Nat.{ℕ, zero, suc, ◌+◌, zero-le}
use native.Mathlib.Omega.{arith}
use lib.Dec.{T, eqb, ltb, eqb→eq, nltb→le}
use lib.ListN.{length, get_or, drop, length-map}
use lib.Seq.{drop-length}
use Rattle.lists.specs.Lists.{all, has, index, firsts, equal, up_to}
use Rattle.lists.proofs.Lists.Equal.{numbers-equality}
use Rattle.lists.proofs.Bools.{split, of_T, to-not, and_l, and_r}
use Rattle.lists.proofs.Lists.Membership.{eqb-equality, all-has, has-keep, keep-has, has-firsts, map-cong, index-map}
use Rattle.lists.proofs.Numbers.UpTo.{up_to-drop}
use Rattle.diagram.specs.Tree.{Tree, half, halves, first, same, inverted}
use Rattle.diagram.specs.Networks.Diagram.{Node, Diagram, edge, target, refers}
use Rattle.diagram.specs.Networks.Network.{classes, reference, refer, node_of, nodes, network}
use Rattle.diagram.specs.Canonical.Structure.{node_on, at_level, all_targets, spread, standing, range, numbered}
use Rattle.diagram.proofs.Networks.Same.{node-equal}
use Rattle.diagram.proofs.Tree.{same-equality, inverted-false}
use Rattle.diagram.proofs.Networks.Known.{refer-leaf, refer-depends, refer-skips}
use Rattle.diagram.proofs.Networks.Reference.{from, from-node, from-constant, target-reference, reference-target, reference-big, not-below}
use Rattle.diagram.proofs.Networks.Function.{here, function, from_next}
use Rattle.diagram.proofs.Networks.Least.{here-big, here-level}
use Rattle.diagram.proofs.Canonical.Reduced.{Reduced, function_of, constant-digit, node-plain, node-target, edge_here}
use Rattle.diagram.proofs.Canonical.Reduced.{last, half-here, half-past, first_function, function-injective, depends-here, normal-function}
use Rattle.diagram.proofs.Canonical.Walk.{node_from, Seen, seen-top, seen_below, seen-classes}
use Rattle.diagram.proofs.Canonical.Spread.{Among, among-all, spread-stays, spread-edge, range-index, numbered-le}

reference-and : (inv : Bool) (k : ℕ) (i : Bool) → reference inv k i ≡ reference inv k (inv && i)
reference-and true k i = refl
reference-and false k i = refl

module _ (inv : Bool) (n : ℕ) (D : Diagram) (w : Reduced inv n D) where
  -- the walk at level p: d levels are left, and `base` nodes stand above
  record Stage (d p base : ℕ) (ts : List (Tree Bool d)) (ks : List ℕ) : Type 0 where
    depth : p + d ≡ n
    seen : Seen inv D d p ts ks
    numbers : T (numbered inv D d p base ks)

  -- the nodes that stand at the level are the next ones
  standing-range : (d p base : ℕ) (ts : List (Tree Bool (suc d))) (ks : List ℕ) → Stage (suc d) p base ts ks
      → standing inv D p ks ≡ range base (length (standing inv D p ks))
  unfolding numbered
  standing-range d p base ts ks s =
      numbers-equality.sound (standing inv D p ks) (range base (length (standing inv D p ks)))
      (and_l (equal eqb (standing inv D p ks) (range base (length (standing inv D p ks)))) _ s.numbers)

  -- there are as many as classes
  classes-count : (d p base : ℕ) (ts : List (Tree Bool (suc d))) (ks : List ℕ) → Stage (suc d) p base ts ks
      → length (classes inv ts) ≡ length (standing inv D p ks)
  classes-count d p base ts ks s =
      ap length (seen-classes inv n D w d p ts ks s.depth s.seen)
      ∙ length-map (standing inv D p ks) (function_of inv D (suc d) p)

  stage-below : (d p base : ℕ) (ts : List (Tree Bool (suc d))) (ks : List ℕ) → Stage (suc d) p base ts ks
      → Stage d (suc p) (base + length (classes inv ts)) (halves ts) (firsts eqb (spread inv D p ks))
  unfolding numbered
  stage-below d p base ts ks s =
      let e = s.depth in
      record {
        depth = omega arith;
        seen = seen_below inv n D w d p ts ks s.depth s.seen;
        numbers =
            subst (λ (c : ℕ). T (numbered inv D d (suc p) (base + c) (firsts eqb (spread inv D p ks))))
            (sym (classes-count d p base ts ks s))
            (and_r (equal eqb (standing inv D p ks) (range base (length (standing inv D p ks)))) _ s.numbers);
      }

  -- a node's class stands where its number says
  class-place : (d p base : ℕ) (ts : List (Tree Bool (suc d))) (ks : List ℕ) → Stage (suc d) p base ts ks → (k : ℕ)
      → T (has eqb k (standing inv D p ks)) → base + index same (function_of inv D (suc d) p k) (classes inv ts) ≡ k
  class-place d p base ts ks s k h =
      let f : ℕ → Tree Bool (suc d) = function_of inv D (suc d) p in
      let m = standing inv D p ks in
      let owned : (j : ℕ) → T (has eqb j m) → T (node_from inv D p j) =
      λ j g. all-has eqb eqb-equality (node_from inv D p) ks s.seen.own j (keep-has eqb eqb-equality (at_level inv D p) j ks g).0 in
      let apart : (j : ℕ) → T (has eqb j m) → f k ≡ f j → k ≡ j =
      λ j g q. sym (target-reference inv k false)
      ∙ ap (target inv)
      (function-injective inv n D w (suc d) p (reference inv k false) (reference inv j false) s.depth (owned k h) (owned j g) q)
      ∙ target-reference inv j false in
      let place : base + index eqb k m ≡ k =
      subst (λ (l : List ℕ). T (has eqb k l) → base + index eqb k l ≡ k) (sym (standing-range d p base ts ks s))
      (range-index base (length m) k) h in
      ap (λ (l : List (Tree Bool (suc d))). base + index same (f k) l) (seen-classes inv n D w d p ts ks s.depth s.seen)
      ∙ ap (λ (i : ℕ). base + i) (index-map eqb eqb-equality same same-equality f k m apart)
      ∙ place

  -- the reference to what a met reference computes is that reference
  refer-function : (d p base : ℕ) (ts : List (Tree Bool d)) (ks : List ℕ) → Stage d p base ts ks → (r : ℕ) → T (from inv D p r)
      → Among inv r ks → refer inv d base ts (function inv D d p r) ≡ r
  refer-function zero p base ts ks s r t a =
      refer-leaf inv base ts (function inv D zero p r) ∙ sym (constant-digit r (last inv n D w p r s.depth t))
  refer-function (suc d) p base ts ks s r t a =
      let f = function inv D (suc d) p r in
      let k = target inv r in
      split (here inv D p r)
      (λ h. let big = here-big inv D p r h in
      let stands : T (has eqb k (standing inv D p ks)) =
      has-keep eqb eqb-equality (at_level inv D p) k ks (a big)
      (subst (λ (c : Node). T (eqb c.level p)) (sym (node-target inv D r)) (here-level inv D p r h)) in
      refer-depends inv base ts f (depends-here inv n D w d p r s.depth t ∙ h)
      ∙ ap (λ x. reference inv (base + index same x (classes inv ts)) (first f)) (normal-function inv n D w (suc d) p r s.depth t big)
      ∙ ap (λ (j : ℕ). reference inv j (first f)) (class-place d p base ts ks s k stands)
      ∙ reference-and inv k (first f) ∙ ap (reference inv k) (first_function inv n D w (suc d) p r s.depth t)
      ∙ reference-target inv r (nltb→le r 2 (to-not big)))
      (λ h. refer-skips inv base ts f (depends-here inv n D w d p r s.depth t ∙ h)
      ∙ ap (refer inv d (base + length (classes inv ts)) (halves ts)) (half-past inv n D w false d p r h)
      ∙ refer-function d (suc p) (base + length (classes inv ts)) (halves ts) (firsts eqb (spread inv D p ks))
      (stage-below d p base ts ks s) r (from_next inv n D w.good p r t h)
      (λ b. has-firsts eqb eqb-equality k (spread inv D p ks) (spread-stays inv D p k ks (a b) (elsewhere h b))))
    where
      elsewhere : here inv D p r ≡ false → ltb r 2 ≡ false → at_level inv D p (target inv r) ≡ false
      elsewhere h b = ap (λ (c : Node). eqb c.level p) (node-target inv D r) ∙ (rw b at h)

  -- the node of a class is the diagram's own
  class-own : (d p base : ℕ) (ts : List (Tree Bool (suc d))) (ks : List ℕ) → Stage (suc d) p base ts ks → (k : ℕ)
      → T (has eqb k (standing inv D p ks))
      → node_of inv p (base + length (classes inv ts)) (halves ts) (function_of inv D (suc d) p k) ≡ node_on inv D k
  class-own d p base ts ks s k h =
      let r = reference inv k false in
      let met = keep-has eqb eqb-equality (at_level inv D p) k ks h in
      let stands : here inv D p r ≡ true =
      ap (λ b. not b && at_level inv D p k) (not-below r 2 (reference-big inv k false)) ∙ of_T met.1 in
      let t : T (from inv D p r) = all-has eqb eqb-equality (node_from inv D p) ks s.seen.own k met.0 in
      let b = base + length (classes inv ts) in
      let edges : (c : Bool) → refer inv d b (halves ts) (half c (function inv D (suc d) p r)) ≡ edge c (node_on inv D k) =
      λ c. let e = edge c (node_on inv D k) in
      ap (refer inv d b (halves ts))
      (half-here inv n D w c d p r stands ∙ ap (λ i. inverted i (function inv D d (suc p) e)) (node-plain inv k)
      ∙ inverted-false (function inv D d (suc p) e))
      ∙ refer-function d (suc p) b (halves ts) (firsts eqb (spread inv D p ks)) (stage-below d p base ts ks s) e
      (edge_here inv n D w c p r t stands)
      (λ g. has-firsts eqb eqb-equality (target inv e) (spread inv D p ks) (spread-edge inv D p k ks c met.0 (of_T met.1) g)) in
      node-equal (node_of inv p b (halves ts) (function inv D (suc d) p r)) (node_on inv D k)
      (sym (eqb→eq (node_on inv D k).level p met.1)) (edges false) (edges true)

  -- the nodes of the classes are the next of the list
  class-nodes : (d p base : ℕ) (ts : List (Tree Bool (suc d))) (ks : List ℕ) → Stage (suc d) p base ts ks
      → map (node_of inv p (base + length (classes inv ts)) (halves ts)) (classes inv ts)
      ≡ map (λ i. get_or D.nodes (base + i) (record { level = 0; low = 0; high = 0 })) (up_to (length (classes inv ts)))
  class-nodes d p base ts ks s =
      let f : ℕ → Tree Bool (suc d) = function_of inv D (suc d) p in
      let g : Tree Bool (suc d) → Node = node_of inv p (base + length (classes inv ts)) (halves ts) in
      let m = standing inv D p ks in
      let found : ℕ → Node = λ k. get_or D.nodes k (record { level = 0; low = 0; high = 0 }) in
      ap (map g) (seen-classes inv n D w d p ts ks s.depth s.seen) ∙ map-map g f m
      ∙ map-cong eqb eqb-equality (λ k. g (f k)) found m
      (λ k h. class-own d p base ts ks s k h ∙ ap found (target-reference inv k false))
      ∙ ap (map found) (standing-range d p base ts ks s) ∙ map-map found (λ i. base + i) (up_to (length m))
      ∙ ap (λ (c : ℕ). map (λ i. found (base + i)) (up_to c)) (sym (classes-count d p base ts ks s))

  -- the nodes from a level on are the list's from their first number on
  nodes-drop : (d p base : ℕ) (ts : List (Tree Bool d)) (ks : List ℕ) → Stage d p base ts ks → nodes inv d p base ts ≡ drop base D.nodes
  unfolding nodes numbered
  nodes-drop zero p base ts ks s =
      sym (ap (λ (k : ℕ). drop k D.nodes) (eqb→eq base (length D.nodes) s.numbers) ∙ drop-length D.nodes)
  nodes-drop (suc d) p base ts ks s =
      let b = base + length (classes inv ts) in
      let below = stage-below d p base ts ks s in
      ap₂ ◌++◌ (class-nodes d p base ts ks s) (nodes-drop d (suc p) b (halves ts) (firsts eqb (spread inv D p ks)) below)
      ∙ up_to-drop D.nodes base (length (classes inv ts)) (record { level = 0; low = 0; high = 0 })
      (numbered-le inv D d (suc p) b (firsts eqb (spread inv D p ks)) below.numbers)

pub numbered-network : (inv : Bool) (n : ℕ) (D : Diagram) → Reduced inv n D → T (all (refers inv D) D.roots)
    → T (numbered inv D n 0 0 (firsts eqb (all_targets inv D.roots)))
    → network inv n (map (function inv D n 0) D.roots) ≡ D
unfolding network
numbered-network inv n D w own t =
    let rs = D.roots in
    let ts = map (function inv D n 0) rs in
    let ks = firsts eqb (all_targets inv rs) in
    let top : Stage inv n D w n 0 0 ts ks = record { depth = omega arith; seen = seen-top inv n D w rs own; numbers = t } in
    let rooted : (r : ℕ) → T (has eqb r rs) → refer inv n 0 ts (function inv D n 0 r) ≡ r =
    λ r h. refer-function inv n D w n 0 0 ts ks top r (from-top r (all-has eqb eqb-equality (refers inv D) rs own r h))
    (λ e. has-firsts eqb eqb-equality (target inv r) (all_targets inv rs) (among-all inv r rs h e)) in
    let all-roots : map (refer inv n 0 ts) ts ≡ rs =
    map-map (refer inv n 0 ts) (function inv D n 0) rs
    ∙ map-cong eqb eqb-equality (λ r. refer inv n 0 ts (function inv D n 0 r)) (λ r. r) rs rooted ∙ map-id rs in
    let all-nodes = nodes-drop inv n D w n 0 0 ts ks top in
    λ i. record { nodes = all-nodes i; roots = all-roots i }
  where
    from-top : (r : ℕ) → T (refers inv D r) → T (from inv D 0 r)
    from-top r h = split (ltb r 2) (from-constant inv D 0 r) (λ e. from-node inv D 0 r h zero-le)
