-- Classes of segments, and the references to functions whose class is known at a level.
-- Assumes nothing.
use mathlib.Core.Path.{◌≡◌, refl, sym, ap, ◌∙◌, subst}
use mathlib.Core.Bool.{Bool, true, false, ◌&&◌}
use mathlib.Core.List.{List, map}
use Prim.Native.Nat.{ℕ, zero, suc, ◌+◌}
use lib.Dec.{T}
use lib.ListN.{length}
use Rattle.lists.specs.Lists.{has, index}
use Rattle.lists.specs.Bits.{digit}
use Rattle.lists.proofs.Bools.{split, to-T, to-not, absurd-T}
use Rattle.lists.proofs.Lists.Membership.{has-map, map-has}
use Rattle.diagram.specs.Tree.{Tree, half, halves, first, same}
use Rattle.diagram.specs.Networks.Diagram.{inverts}
use Rattle.diagram.specs.Networks.Network.{depends, normal, classes, reference, refer}
use Rattle.diagram.proofs.Tree.{same-equality, same→eq, has-halves, half-inverted, first-half, depends-normal, normal-inverted}
use Rattle.diagram.proofs.Tree.{normal-normal}
use Rattle.diagram.proofs.Networks.Classes.{has-classes, classes-has}
use Rattle.diagram.proofs.Networks.Reference.{inverts-reference}

-- a function that doesn't depend on its top variable has equal halves
pub half-equal : {d : ℕ} (b : Bool) (t : Tree Bool (suc d)) → depends t ≡ false → half b t ≡ half false t
half-equal false t e = refl
half-equal true t e =
    sym (same→eq (half false t) (half true t) (split (same (half false t) (half true t)) to-T (λ q. absurd-T (to-not q) e)))

-- a function whose class is among those of ts
abbrev pub Known : {d : ℕ} → Bool → List (Tree Bool d) → Tree Bool d → Type 0
Known inv ts t = T (has same (normal inv t) (map (normal inv) ts))

module _ {d : ℕ} (inv : Bool) where
  pub known_of : (ts : List (Tree Bool d)) (t : Tree Bool d) → T (has same t ts) → Known inv ts t
  known_of ts t h = has-map same same-equality same same-equality (normal inv) t ts h

  known_member : (ts : List (Tree Bool d)) (t : Tree Bool d) → Known inv ts t
      → (u : Tree Bool d) × T (has same u ts) × (normal inv u ≡ normal inv t)
  known_member ts t k = map-has same same-equality same same-equality (normal inv) (normal inv t) ts k

  pub known-normal : (ts : List (Tree Bool d)) (t : Tree Bool d) → Known inv ts t → Known inv ts (normal inv t)
  known-normal ts t k = rw normal-normal k

-- the halves of two functions of one class are of one class
pub half-normal : {d : ℕ} (inv b : Bool) (t : Tree Bool (suc d)) → normal inv (half b (normal inv t)) ≡ normal inv (half b t)
half-normal inv b t = ap (normal inv) (half-inverted b (inv && first t) t) ∙ normal-inverted inv (first t) (half b t)

pub normal-half : {d : ℕ} (inv b : Bool) (t u : Tree Bool (suc d)) → normal inv u ≡ normal inv t
    → normal inv (half b u) ≡ normal inv (half b t)
normal-half inv b t u e = sym (half-normal inv b u) ∙ ap (λ x. normal inv (half b x)) e ∙ half-normal inv b t

pub known-half : {d : ℕ} (inv b : Bool) (ts : List (Tree Bool (suc d))) (t : Tree Bool (suc d)) → Known inv ts t
    → Known inv (halves ts) (half b t)
known-half inv b ts t k =
    let w = known_member inv ts t k in
    subst (λ x. T (has same x (map (normal inv) (halves ts)))) (normal-half inv b t w.0 w.2)
    (known_of inv (halves ts) (half b w.0) (has-halves b w.0 ts w.1))

-- a known function that depends on its top variable is in a class
pub known-class : {d : ℕ} (inv : Bool) (ts : List (Tree Bool (suc d))) (t : Tree Bool (suc d)) → Known inv ts t → depends t ≡ true
    → T (has same (normal inv t) (classes inv ts))
known-class inv ts t k e =
    let w = known_member inv ts t k in
    let q : depends w.0 ≡ true = sym (depends-normal inv w.0) ∙ ap depends w.2 ∙ depends-normal inv t ∙ e in
    subst (λ x. T (has same x (classes inv ts))) w.2 (has-classes inv ts w.0 w.1 (to-T q))

-- and a class is known
pub class-known : {d : ℕ} (inv : Bool) (ts : List (Tree Bool (suc d))) (x : Tree Bool (suc d)) → T (has same x (classes inv ts))
    → Known inv ts x
class-known inv ts x h =
    let u = classes-has inv ts x h in
    subst (Known inv ts) u.3 (known-normal inv ts u.0 (known_of inv ts u.0 u.1))

-- the equations of `refer`

pub refer-depends : {d : ℕ} (inv : Bool) (base : ℕ) (ts : List (Tree Bool (suc d))) (t : Tree Bool (suc d)) → depends t ≡ true
    → refer inv (suc d) base ts t ≡ reference inv (base + index same (normal inv t) (classes inv ts)) (first t)
unfolding refer
refer-depends inv base ts t e = rw e

pub refer-skips : {d : ℕ} (inv : Bool) (base : ℕ) (ts : List (Tree Bool (suc d))) (t : Tree Bool (suc d)) → depends t ≡ false
    → refer inv (suc d) base ts t ≡ refer inv d (base + length (classes inv ts)) (halves ts) (half false t)
unfolding refer
refer-skips inv base ts t e = rw e

pub refer-leaf : (inv : Bool) (base : ℕ) (ts : List (Tree Bool 0)) (t : Tree Bool 0) → refer inv 0 base ts t ≡ digit (first t)
unfolding refer
refer-leaf inv base ts t = refl

inverts-digit : (inv b : Bool) → inverts inv (digit b) ≡ (inv && b)
inverts-digit true true = refl
inverts-digit true false = refl
inverts-digit false b = refl

-- the low bit of a reference is the all-zero row of what it refers to
pub refer-inverts : (inv : Bool) (d base : ℕ) (ts : List (Tree Bool d)) (t : Tree Bool d)
    → inverts inv (refer inv d base ts t) ≡ (inv && first t)
refer-inverts inv zero base ts t = ap (inverts inv) (refer-leaf inv base ts t) ∙ inverts-digit inv (first t)
refer-inverts inv (suc d) base ts t =
    split (depends t)
    (λ e. ap (inverts inv) (refer-depends inv base ts t e) ∙ inverts-reference inv (base + index same (normal inv t) (classes inv ts))
    (first t))
    (λ e. ap (inverts inv) (refer-skips inv base ts t e) ∙ refer-inverts inv d (base + length (classes inv ts)) (halves ts) (half false t)
    ∙ ap (λ b. inv && b) (first-half t))
