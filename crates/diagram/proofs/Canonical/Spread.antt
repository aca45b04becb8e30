-- What the walk of number 32 holds: a met reference's node stays in the list a level down, or its edges' nodes stand there; the numbers
-- from `base` on stand each at its place, and none is past the diagram's nodes.
-- Assumes nothing.
use mathlib.Core.Path.{◌≡◌, sym, ap, ◌∙◌, subst}
use mathlib.Core.Bool.{Bool, true, false}
use mathlib.Core.List.{List, [], ◌∷◌, ◌++◌}
use mathlib.Core.Logic.{⊎_elim}
use Prim.Native.Nat.{ℕ, zero, suc, ◌+◌, ◌≤◌, ◌<◌}
use native.Mathlib.Omega.{arith}
use lib.Dec.{T, eqb, ltb, eqb→eq, eqb_refl}
use lib.ListN.{length}
use Rattle.lists.specs.Lists.{has, index, firsts, equal}
use Rattle.lists.proofs.Bools.{split, to-T, absurd-T, and_r, or_l, or_r, or_cases}
use Rattle.lists.proofs.Lists.Membership.{eqb-equality, has-append-l, has-append-r, index-lt, get_or-index}
use Rattle.lists.proofs.Numbers.UpTo.{length-map-up_to, get_or-map-up_to}
use Rattle.diagram.specs.Networks.Diagram.{Diagram, edge, target}
use Rattle.diagram.specs.Canonical.Structure.{node_on, at_level, targets, all_targets, spread, standing, range, numbered}

-- a reference that is a constant, or to one of the nodes ks
abbrev pub Among : Bool → ℕ → List ℕ → Type 0
Among inv r ks = ltb r 2 ≡ false → T (has eqb (target inv r) ks)

among-targets : (inv : Bool) (r : ℕ) → Among inv r (targets inv r)
among-targets inv r e = rw e (or_l (eqb (target inv r) (target inv r)) false (eqb_refl (target inv r)))

pub among-all : (inv : Bool) (r : ℕ) (rs : List ℕ) → T (has eqb r rs) → Among inv r (all_targets inv rs)
among-all inv r [] h e = absurd h
among-all inv r (s ∷ rs) h e =
    ⊎_elim
    (λ q. has-append-l eqb eqb-equality (target inv r) (targets inv s) (all_targets inv rs)
    (subst (λ (x : ℕ). T (has eqb (target inv r) (targets inv x))) (eqb→eq r s q) (among-targets inv r e)))
    (λ q. has-append-r eqb eqb-equality (target inv r) (targets inv s) (all_targets inv rs) (among-all inv r rs q e))
    (or_cases (eqb r s) (has eqb r rs) h)

-- a node that doesn't stand at level p stays
pub spread-stays : (inv : Bool) (D : Diagram) (p k : ℕ) (ks : List ℕ) → T (has eqb k ks) → at_level inv D p k ≡ false
    → T (has eqb k (spread inv D p ks))
spread-stays inv D p k [] h e = absurd h
spread-stays inv D p k (j ∷ ks) h e =
    let low = targets inv (node_on inv D j).low in
    let high = targets inv (node_on inv D j).high in
    split (at_level inv D p j)
    (λ a. rw a
    (has-append-r eqb eqb-equality k low (high ++ spread inv D p ks)
    (has-append-r eqb eqb-equality k high (spread inv D p ks)
    (spread-stays inv D p k ks
    (⊎_elim (λ q. absurd-T (subst (λ (x : ℕ). T (at_level inv D p x)) (sym (eqb→eq k j q)) (to-T a)) e) (λ q. q)
    (or_cases (eqb k j) (has eqb k ks) h)) e))))
    (λ a. rw a
    (⊎_elim (λ q. or_l (eqb k j) (has eqb k (spread inv D p ks)) q)
    (λ q. or_r (eqb k j) (has eqb k (spread inv D p ks)) (spread-stays inv D p k ks q e))
    (or_cases (eqb k j) (has eqb k ks) h)))

-- the edges of one that does are there
pub spread-edge : (inv : Bool) (D : Diagram) (p k : ℕ) (ks : List ℕ) (b : Bool) → T (has eqb k ks) → at_level inv D p k ≡ true
    → Among inv (edge b (node_on inv D k)) (spread inv D p ks)
spread-edge inv D p k [] b h e g = absurd h
spread-edge inv D p k (j ∷ ks) b h e g =
    let x = target inv (edge b (node_on inv D k)) in
    let low = targets inv (node_on inv D j).low in
    let high = targets inv (node_on inv D j).high in
    ⊎_elim
    (λ q. let i = eqb→eq k j q in
    let a : at_level inv D p j ≡ true = ap (at_level inv D p) (sym i) ∙ e in
    rw a (own b (subst (λ (y : ℕ). T (has eqb x (targets inv (edge b (node_on inv D y))))) i
    (among-targets inv (edge b (node_on inv D k)) g))))
    (λ q. let rest = spread-edge inv D p k ks b q e g in
    split (at_level inv D p j)
    (λ a. rw a (has-append-r eqb eqb-equality x low (high ++ spread inv D p ks)
    (has-append-r eqb eqb-equality x high (spread inv D p ks) rest)))
    (λ a. rw a (or_r (eqb x j) (has eqb x (spread inv D p ks)) rest)))
    (or_cases (eqb k j) (has eqb k ks) h)
  where
    own : (c : Bool) → T (has eqb (target inv (edge b (node_on inv D k))) (targets inv (edge c (node_on inv D j))))
        → T (has eqb (target inv (edge b (node_on inv D k)))
        (targets inv (node_on inv D j).low ++ (targets inv (node_on inv D j).high ++ spread inv D p ks)))
    own false t =
        has-append-l eqb eqb-equality (target inv (edge b (node_on inv D k))) (targets inv (node_on inv D j).low)
        (targets inv (node_on inv D j).high ++ spread inv D p ks) t
    own true t =
        has-append-r eqb eqb-equality (target inv (edge b (node_on inv D k))) (targets inv (node_on inv D j).low)
        (targets inv (node_on inv D j).high ++ spread inv D p ks)
        (has-append-l eqb eqb-equality (target inv (edge b (node_on inv D k))) (targets inv (node_on inv D j).high) (spread inv D p ks) t)

-- numbers from base on: each stands at its place
pub range-index : (base c k : ℕ) → T (has eqb k (range base c)) → base + index eqb k (range base c) ≡ k
range-index base c k h =
    let i : index eqb k (range base c) < length (range base c) = index-lt eqb eqb-equality k (range base c) h in
    sym (get_or-map-up_to (λ j. base + j) c (index eqb k (range base c)) 0 (omega (arith, length-map-up_to (λ j. base + j) c)))
    ∙ get_or-index eqb eqb-equality k (range base c) 0 h

-- the last number is no less than any before
pub numbered-le : (inv : Bool) (D : Diagram) (d p base : ℕ) (ks : List ℕ) → T (numbered inv D d p base ks) → base ≤ length D.nodes
unfolding numbered
numbered-le inv D zero p base ks t = let e = eqb→eq base (length D.nodes) t in omega arith
numbered-le inv D (suc d) p base ks t =
    let c = length (standing inv D p ks) in
    let h = numbered-le inv D d (suc p) (base + c) (firsts eqb (spread inv D p ks))
    (and_r (equal eqb (standing inv D p ks) (range base c)) _ t) in
    omega arith
