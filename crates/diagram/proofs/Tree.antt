-- Laws of trees: equality, halves, inversion, the normal member of a class, and what stands at a row.
-- Assumes nothing.
use mathlib.Core.Path.{◌≡◌, refl, sym, ap, ap₂, ◌∙◌, subst}
use mathlib.Core.Bool.{Bool, true, false, not, cond, ◌&&◌}
use mathlib.Core.List.{List, [], ◌∷◌}
use mathlib.Core.Logic.{⊎_elim}
use Prim.Native.Nat.{ℕ, zero, suc, ◌+◌, ◌*◌, ◌≤◌, ◌<◌}
use native.Mathlib.Nat.{le_refl, le_of_lt}
use native.Mathlib.Omega.{arith}
use lib.Dec.{T, eqb, eqb→eq, eqb_refl}
use lib.ListN.{length}
use Rattle.lists.specs.Lists.{has}
use Rattle.lists.specs.Bits.{flip}
use Rattle.lists.proofs.Bools.{split, of_T, to-T, and_T, and_l, and_r, or_l, or_r, or_cases, flip-flip, flip-self, beq→eq, beq-refl}
use Rattle.lists.proofs.Lists.Membership.{Equality}
use Rattle.diagram.specs.Tree.{Tree, leaf, node, half, at, full, halves, inverted, first, same}
use Rattle.diagram.specs.Networks.Network.{depends, normal}

-- equality

pub same→eq : {d : ℕ} (s t : Tree Bool d) → T (same s t) → s ≡ t
same→eq (leaf a) (leaf b) t = ap leaf (beq→eq a b t)
same→eq (node l h) (node l' h') t =
    ap₂ node (same→eq l l' (and_l (same l l') (same h h') t)) (same→eq h h' (and_r (same l l') (same h h') t))

pub same_refl : {d : ℕ} (t : Tree Bool d) → T (same t t)
same_refl (leaf b) = beq-refl b
same_refl (node l h) = and_T (same l l) (same h h) (same_refl l) (same_refl h)

pub same-equality : {d : ℕ} → Equality (same {d = d})
same-equality = record { sound = same→eq; self = same_refl }

pub eq→same : {d : ℕ} {s t : Tree Bool d} → s ≡ t → T (same s t)
eq→same {s = s} e = subst (λ t. T (same s t)) e (same_refl s)

-- halves

pub node-halves : {A : Type 0} {d : ℕ} (t : Tree A (suc d)) → t ≡ node (half false t) (half true t)
node-halves (node l h) = refl

pub has-halves : {d : ℕ} (b : Bool) (t : Tree Bool (suc d)) (ts : List (Tree Bool (suc d))) → T (has same t ts)
    → T (has same (half b t) (halves ts))
has-halves b t [] h = absurd h
has-halves b t (u ∷ us) h =
    ⊎_elim
    (λ s. step b (subst (λ x. T (same (half b t) (half b x))) (same→eq t u s) (same_refl (half b t))))
    (λ s. or_r (same (half b t) (half false u)) _ (or_r (same (half b t) (half true u)) _ (has-halves b t us s)))
    (or_cases (same t u) (has same t us) h)
  where
    step : (c : Bool) → T (same (half b t) (half c u)) → T (has same (half b t) (halves (u ∷ us)))
    step false s = or_l (same (half b t) (half false u)) _ s
    step true s = or_r (same (half b t) (half false u)) _ (or_l (same (half b t) (half true u)) _ s)

pub length-halves : {A : Type 0} {d : ℕ} (ts : List (Tree A (suc d))) → length (halves ts) ≡ 2 * length ts
length-halves [] = refl
length-halves (t ∷ ts) = omega (arith, length-halves ts)

-- inversion

pub inverted-false : {d : ℕ} (t : Tree Bool d) → inverted false t ≡ t
inverted-false (leaf b) = refl
inverted-false (node l h) = ap₂ node (inverted-false l) (inverted-false h)

pub inverted-inverted : {d : ℕ} (i : Bool) (t : Tree Bool d) → inverted i (inverted i t) ≡ t
inverted-inverted i (leaf b) = ap leaf (flip-flip i b)
inverted-inverted i (node l h) = ap₂ node (inverted-inverted i l) (inverted-inverted i h)

pub half-inverted : {d : ℕ} (b i : Bool) (t : Tree Bool (suc d)) → half b (inverted i t) ≡ inverted i (half b t)
half-inverted false i (node l h) = refl
half-inverted true i (node l h) = refl

pub first-inverted : {d : ℕ} (i : Bool) (t : Tree Bool d) → first (inverted i t) ≡ flip i (first t)
first-inverted i (leaf b) = refl
first-inverted i (node l h) = first-inverted i l

pub first-half : {d : ℕ} (t : Tree Bool (suc d)) → first (half false t) ≡ first t
first-half (node l h) = refl

flip_cond : (i c : Bool) (x y : Bool) → cond c (flip i x) (flip i y) ≡ flip i (cond c x y)
flip_cond i true x y = refl
flip_cond i false x y = refl

pub at-inverted : {d : ℕ} (p : ℕ) (a : ℕ → Bool) (i : Bool) (t : Tree Bool d) → at p a (inverted i t) ≡ flip i (at p a t)
at-inverted p a i (leaf b) = refl
at-inverted p a i (node l h) =
    ap₂ (cond (a p)) (at-inverted (suc p) a i h) (at-inverted (suc p) a i l) ∙ flip_cond i (a p) (at (suc p) a h) (at (suc p) a l)

pub same-inverted : {d : ℕ} (i : Bool) (s t : Tree Bool d) → same (inverted i s) (inverted i t) ≡ same s t
same-inverted false (leaf a) (leaf b) = refl
same-inverted true (leaf true) (leaf true) = refl
same-inverted true (leaf true) (leaf false) = refl
same-inverted true (leaf false) (leaf true) = refl
same-inverted true (leaf false) (leaf false) = refl
same-inverted i (node l h) (node l' h') = ap₂ ◌&&◌ (same-inverted i l l') (same-inverted i h h')

pub depends-inverted : {d : ℕ} (i : Bool) (t : Tree Bool (suc d)) → depends (inverted i t) ≡ depends t
depends-inverted i (node l h) = ap not (same-inverted i l h)

-- the normal member of a class

pub normal-back : {d : ℕ} (inv : Bool) (t : Tree Bool d) → inverted (inv && first t) (normal inv t) ≡ t
normal-back inv t = inverted-inverted (inv && first t) t

pub first-normal : {d : ℕ} (t : Tree Bool d) → first (normal true t) ≡ false
first-normal t = first-inverted (first t) t ∙ flip-self (first t)

pub depends-normal : {d : ℕ} (inv : Bool) (t : Tree Bool (suc d)) → depends (normal inv t) ≡ depends t
depends-normal inv t = depends-inverted (inv && first t) t

inverted-twice : {d : ℕ} (i j : Bool) (t : Tree Bool d) → inverted (flip i j) (inverted i t) ≡ inverted j t
inverted-twice false j t = ap (inverted j) (inverted-false t)
inverted-twice true false t = inverted-inverted true t ∙ sym (inverted-false t)
inverted-twice true true t = inverted-false (inverted true t)

-- a function and its inverse have one normal member
pub normal-inverted : {d : ℕ} (inv i : Bool) (t : Tree Bool d) → normal inv (inverted (inv && i) t) ≡ normal inv t
normal-inverted false i t = ap (inverted false) (inverted-false t)
normal-inverted true i t = ap (λ b. inverted b (inverted i t)) (first-inverted i t) ∙ inverted-twice i (first t) t

pub normal-normal : {d : ℕ} (inv : Bool) (t : Tree Bool d) → normal inv (normal inv t) ≡ normal inv t
normal-normal inv t = normal-inverted inv (first t) t

-- not one and the same at every row
abbrev pub varies : {d : ℕ} → Tree Bool d → Bool
varies {d} t = not (same t (full (first t) d))

-- what stands at a row tells the tree

pub at_above : {A : Type 0} {d : ℕ} (p : ℕ) (a b : ℕ → Bool) (t : Tree A d) → ((q : ℕ) → p ≤ q → q < p + d → a q ≡ b q)
    → at p a t ≡ at p b t
at_above p a b (leaf x) f = refl
at_above {d = suc d} p a b (node l h) f =
    let e : a p ≡ b p = f p (le_refl p) (omega arith) in
    let fl : at (suc p) a l ≡ at (suc p) b l = at_above (suc p) a b l (λ q h k. f q (le_of_lt h) (omega arith)) in
    let fh : at (suc p) a h ≡ at (suc p) b h = at_above (suc p) a b h (λ q h k. f q (le_of_lt h) (omega arith)) in
    rw (e, fl, fh)

-- a row with its bit at level p set
abbrev with : ℕ → Bool → (ℕ → Bool) → ℕ → Bool
with p b a q = cond (eqb q p) b (a q)

with-other : (p : ℕ) (b : Bool) (a : ℕ → Bool) (q : ℕ) → p < q → with p b a q ≡ a q
with-other p b a q h = split (eqb q p) (λ e. let z = eqb→eq q p (to-T e) in absurd (omega arith)) (λ e. rw e)

pub at_with : {A : Type 0} {d : ℕ} (p : ℕ) (b : Bool) (a : ℕ → Bool) (t : Tree A (suc d))
    → at p (with p b a) t ≡ at (suc p) a (half b t)
at_with p b a (node l h) =
    let e : eqb p p ≡ true = of_T (eqb_refl p) in
    rw e (step b)
  where
    step : (c : Bool) → cond c (at (suc p) (with p b a) h) (at (suc p) (with p b a) l) ≡ at (suc p) a (half c (node l h))
    step true = at_above (suc p) (with p b a) a h (λ q k m. with-other p b a q k)
    step false = at_above (suc p) (with p b a) a l (λ q k m. with-other p b a q k)

pub tree-ext : {A : Type 0} {d : ℕ} (p : ℕ) (s t : Tree A d) → ((a : ℕ → Bool) → at p a s ≡ at p a t) → s ≡ t
tree-ext p (leaf x) (leaf y) f = ap leaf (f (λ _. false))
tree-ext p (node l h) (node l' h') f =
    ap₂ node (tree-ext (suc p) l l' (λ a. part false a)) (tree-ext (suc p) h h' (λ a. part true a))
  where
    part : (b : Bool) (a : ℕ → Bool) → at (suc p) a (half b (node l h)) ≡ at (suc p) a (half b (node l' h'))
    part b a = sym (at_with p b a (node l h)) ∙ f (with p b a) ∙ at_with p b a (node l' h')

pub cond_same : {A : Type 0} (b : Bool) (x : A) → cond b x x ≡ x
cond_same true x = refl
cond_same false x = refl

-- constants

pub same_self : {d : ℕ} (t : Tree Bool d) → same t t ≡ true
same_self t = of_T {b = same t t} (same_refl t)

pub first-full : (v : Bool) (d : ℕ) → first (full v d) ≡ v
first-full v zero = refl
first-full v (suc d) = first-full v d

pub varies-full : (v : Bool) (d : ℕ) → varies (full v d) ≡ false
varies-full v d = rw (first-full v d) (ap not (same_self (full v d)))

pub inverted-full : (i v : Bool) (d : ℕ) → inverted i (full v d) ≡ full (flip i v) d
inverted-full i v zero = refl
inverted-full i v (suc d) = ap₂ node (inverted-full i v d) (inverted-full i v d)

pub half_full : (b v : Bool) (d : ℕ) → half b (full v (suc d)) ≡ full v d
half_full false v d = refl
half_full true v d = refl
