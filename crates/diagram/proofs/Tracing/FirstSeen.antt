-- The functions of a list that are seen first: those that vary and whose class doesn't stand before. The law: of the halves of a list
-- the first seen are those of the halves of the first seen.
-- Assumes nothing.
use mathlib.Core.Path.{◌≡◌, refl, sym, ap, ap₂, ◌∙◌, subst}
use mathlib.Core.Bool.{Bool, true, false, not, cond, ◌&&◌}
use mathlib.Core.List.{List, [], ◌∷◌}
use mathlib.Core.Logic.{◌⊎◌, inl, inr, ⊎_elim}
use Prim.Native.Nat.{ℕ, suc}
use lib.Dec.{T}
use Rattle.lists.specs.Lists.{has}
use Rattle.lists.proofs.Bools.{split, of_T, to-T, to-not, absurd-T, and_T, or_l, or_r, or_cases}
use Rattle.diagram.specs.Tree.{Tree, half, halves, full, inverted, first, same}
use Rattle.diagram.specs.Networks.Network.{depends, normal}
use Rattle.diagram.proofs.Tree.{same→eq, same_refl, half-inverted, first-inverted, same-inverted, normal-back, normal-inverted}
use Rattle.diagram.proofs.Tree.{varies, same_self, varies-full, inverted-full, half_full}

-- tests

and-not-true : (a b : Bool) → b ≡ true → (a && not b) ≡ false
and-not-true true b e = ap not e
and-not-true false b e = refl

and_none : (a b : Bool) → a ≡ false → (a && b) ≡ false
and_none a b e = ap (λ c. c && b) e

-- what doesn't vary is a constant
pub steady : {d : ℕ} (t : Tree Bool d) → varies t ≡ false → t ≡ full (first t) d
steady {d} t e = same→eq t (full (first t) d) (split (same t (full (first t) d)) (λ q. to-T q) (λ q. absurd-T (to-not q) e))

steady-half : {d : ℕ} (b : Bool) (t : Tree Bool (suc d)) → varies t ≡ false → varies (half b t) ≡ false
steady-half {d} b t e =
    subst (λ u. varies (half b u) ≡ false) (sym (steady t e))
    (subst (λ u. varies u ≡ false) (sym (half_full b (first t) d)) (varies-full (first t) d))

pub steady-depends : {d : ℕ} (t : Tree Bool (suc d)) → varies t ≡ false → depends t ≡ false
steady-depends {d} t e = subst (λ u. depends u ≡ false) (sym (steady t e)) (ap not (same_self (full (first t) d)))

pub varies-inverted : {d : ℕ} (i : Bool) (t : Tree Bool d) → varies (inverted i t) ≡ varies t
varies-inverted {d} i t =
    ap not (ap (λ b. same (inverted i t) (full b d)) (first-inverted i t)
    ∙ ap (same (inverted i t)) (sym (inverted-full i (first t) d)) ∙ same-inverted i t (full (first t) d))

-- first seen

-- whether t is seen first after functions of the classes gs
abbrev pub is_new : {d : ℕ} → Bool → List (Tree Bool d) → Tree Bool d → Bool
is_new inv gs t = varies t && not (has same (normal inv t) gs)

-- the functions seen first, after functions of the classes gs
abbrev pub fresh : {d : ℕ} → Bool → List (Tree Bool d) → List (Tree Bool d) → List (Tree Bool d)
fresh inv gs [] = []
fresh inv gs (t ∷ ts) = cond (is_new inv gs t) (t ∷ fresh inv (normal inv t ∷ gs) ts) (fresh inv gs ts)

pub seen-steady : {d : ℕ} (inv : Bool) (gs : List (Tree Bool d)) (t : Tree Bool d) → varies t ≡ false → is_new inv gs t ≡ false
seen-steady inv gs t e = and_none (varies t) (not (has same (normal inv t) gs)) e

pub seen-has : {d : ℕ} (inv : Bool) (gs : List (Tree Bool d)) (t : Tree Bool d) → T (has same (normal inv t) gs) → is_new inv gs t ≡ false
seen-has inv gs t h = and-not-true (varies t) (has same (normal inv t) gs) (of_T h)

-- what isn't new is a constant, or its class stands before
seen-cases : {d : ℕ} (inv : Bool) (gs : List (Tree Bool d)) (t : Tree Bool d) → is_new inv gs t ≡ false
    → (varies t ≡ false) ⊎ T (has same (normal inv t) gs)
seen-cases inv gs t e =
    split (varies t)
    (λ v. split (has same (normal inv t) gs) (λ q. inr (to-T q))
    (λ q. absurd-T (and_T (varies t) (not (has same (normal inv t) gs)) (to-T v) (to-not q)) e))
    (λ v. inl v)

pub new-inverted : {d : ℕ} (inv i : Bool) (gs : List (Tree Bool d)) (t : Tree Bool d)
    → is_new inv gs (inverted (inv && i) t) ≡ is_new inv gs t
new-inverted inv i gs t =
    ap₂ ◌&&◌ (varies-inverted (inv && i) t) (ap (λ u. not (has same u gs)) (normal-inverted inv i t))

pub fresh-seen : {d : ℕ} (inv : Bool) (gs : List (Tree Bool d)) (t : Tree Bool d) (ts : List (Tree Bool d)) → is_new inv gs t ≡ false
    → fresh inv gs (t ∷ ts) ≡ fresh inv gs ts
fresh-seen inv gs t ts e = rw e

pub fresh-new : {d : ℕ} (inv : Bool) (gs : List (Tree Bool d)) (t : Tree Bool d) (ts : List (Tree Bool d)) → is_new inv gs t ≡ true
    → fresh inv gs (t ∷ ts) ≡ t ∷ fresh inv (normal inv t ∷ gs) ts
fresh-new inv gs t ts e = rw e

-- halves of what is seen first

-- every class of gs is one of hs
abbrev Within : {d : ℕ} → List (Tree Bool d) → List (Tree Bool d) → Type 0
Within {d} gs hs = (x : Tree Bool d) → T (has same x gs) → T (has same x hs)

-- the halves of functions of the classes gs aren't new after hs
abbrev Covers : {d : ℕ} → Bool → List (Tree Bool (suc d)) → List (Tree Bool d) → Type 0
Covers {d} inv gs hs = (b : Bool) (t : Tree Bool (suc d)) → T (has same (normal inv t) gs) → is_new inv hs (half b t) ≡ false

seen-within : {d : ℕ} (inv : Bool) (gs hs : List (Tree Bool d)) (t : Tree Bool d) → Within gs hs → is_new inv gs t ≡ false
    → is_new inv hs t ≡ false
seen-within inv gs hs t w e = ⊎_elim (λ v. seen-steady inv hs t v) (λ h. seen-has inv hs t (w (normal inv t) h)) (seen-cases inv gs t e)

-- a half's class goes by the function's class
new-half : {d : ℕ} (inv b : Bool) (hs : List (Tree Bool d)) (t : Tree Bool (suc d))
    → is_new inv hs (half b t) ≡ is_new inv hs (half b (normal inv t))
new-half inv b hs t =
    ap (λ u. is_new inv hs (half b u)) (sym (normal-back inv t)) ∙ ap (is_new inv hs) (half-inverted b (inv && first t) (normal inv t))
    ∙ new-inverted inv (first t) hs (half b (normal inv t))

-- where t isn't new, nor are its halves
seen-half : {d : ℕ} (inv b : Bool) (gs : List (Tree Bool (suc d))) (hs : List (Tree Bool d)) (t : Tree Bool (suc d)) → Covers inv gs hs
    → is_new inv gs t ≡ false → is_new inv hs (half b t) ≡ false
seen-half inv b gs hs t c e =
    ⊎_elim (λ v. seen-steady inv hs (half b t) (steady-half b t v)) (λ h. c b t h) (seen-cases inv gs t e)

-- after h, whatever classes stand there: those before it do, and h isn't new
fresh-after : {d : ℕ} (inv : Bool) (hs : List (Tree Bool d)) (h : Tree Bool d) (xs ys : List (Tree Bool d))
    → ((ks : List (Tree Bool d)) → Within hs ks → is_new inv ks h ≡ false → fresh inv ks xs ≡ fresh inv ks ys)
    → fresh inv hs (h ∷ xs) ≡ fresh inv hs (h ∷ ys)
fresh-after {d} inv hs h xs ys f =
    let n = normal inv h in
    split (is_new inv hs h)
    (λ e. rw e (ap (λ (l : List (Tree Bool d)). h ∷ l)
    (f (n ∷ hs) (λ x t. or_r (same x n) (has same x hs) t) (seen-has inv (n ∷ hs) h (or_l (same n n) (has same n hs) (same_refl n))))))
    (λ e. rw e (f hs (λ x t. t) e))

-- A function that isn't new has no new half. One that is new has its halves in both lists, and from then on its class is covered.
pub fresh-halves : {d : ℕ} (inv : Bool) (gs : List (Tree Bool (suc d))) (hs : List (Tree Bool d)) (ts : List (Tree Bool (suc d)))
    → Covers inv gs hs
    → fresh inv hs (halves ts) ≡ fresh inv hs (halves (fresh inv gs ts))
fresh-halves inv gs hs [] c = refl
fresh-halves {d} inv gs hs (t ∷ ts) c =
    split (is_new inv gs t)
    (λ e. rw e
    (fresh-after inv hs (half false t) (half true t ∷ halves ts) (half true t ∷ halves (fresh inv (normal inv t ∷ gs) ts))
    (λ ks w m. fresh-after inv ks (half true t) (halves ts) (halves (fresh inv (normal inv t ∷ gs) ts))
    (λ ls v n. fresh-halves inv (normal inv t ∷ gs) ls ts
    (covered ls (λ x h. v x (w x h)) (sides ls (seen-within inv ks ls (half false t) v m) n))))))
    (λ e. rw e
    (fresh-seen inv hs (half false t) (half true t ∷ halves ts) (seen-half inv false gs hs t c e)
    ∙ fresh-seen inv hs (half true t) (halves ts) (seen-half inv true gs hs t c e) ∙ fresh-halves inv gs hs ts c))
  where
    sides : (ls : List (Tree Bool d)) → is_new inv ls (half false t) ≡ false → is_new inv ls (half true t) ≡ false
        → (b : Bool) → is_new inv ls (half b t) ≡ false
    sides ls m n false = m
    sides ls m n true = n

    covered : (ls : List (Tree Bool d)) → Within hs ls → ((b : Bool) → is_new inv ls (half b t) ≡ false) → Covers inv (normal inv t ∷ gs) ls
    covered ls w s b u h =
        ⊎_elim
        (λ q. new-half inv b ls u ∙ ap (λ x. is_new inv ls (half b x)) (same→eq (normal inv u) (normal inv t) q) ∙ sym (new-half inv b ls t)
        ∙ s b)
        (λ q. seen-within inv hs ls (half b u) w (c b u q))
        (or_cases (same (normal inv u) (normal inv t)) (has same (normal inv u) gs) h)
