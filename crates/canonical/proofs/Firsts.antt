-- First-seen sequence, one element after the other: the first seen of a list in two parts are those of the first part, and what of the
-- second part arrives there.
-- Assumes nothing.
use mathlib.Core.Path.{◌≡◌, refl, sym, ap, ◌∙◌}
use mathlib.Core.Bool.{Bool, true, false, cond, ◌||◌}
use mathlib.Core.List.{List, [], ◌∷◌, ◌++◌, append-nil, append_assoc}
use Prim.Native.Nat.{ℕ}
use borrow.Author.Tests.{eq-eqb, eqb-true}
use lib.Dec.{eqb}
use Rattle.lists.specs.Lists.{has, without, firsts}
use Rattle.lists.proofs.Bools.{split, of_T, to-T, absurd-T}
use Rattle.lists.proofs.Lists.Membership.{eqb-equality, without-has, has-without}
use Rattle.lists.proofs.Lists.Less.{without-append}
use Rattle.lists.proofs.Numbers.Compared.{differ-swap}
use Rattle.canonical.specs.Inner.Walk.{arrived, arrived_all}

pub arrived-old : (ks : List ℕ) (k : ℕ) → has eqb k ks ≡ true → arrived ks k ≡ ks
arrived-old ks k e = rw e

pub arrived-new : (ks : List ℕ) (k : ℕ) → has eqb k ks ≡ false → arrived ks k ≡ ks ++ (k ∷ [])
arrived-new ks k e = rw e

-- an arrival behind x, where x is taken out of the others
behind : (x k : ℕ) (ks : List ℕ) → x ∷ without eqb x (arrived ks k) ≡ arrived (x ∷ without eqb x ks) k
behind x k ks =
    split (has eqb k ks)
    (λ h. ap (λ (l : List ℕ). x ∷ without eqb x l) (arrived-old ks k h) ∙ sym (arrived-old (x ∷ without eqb x ks) k (stays h)))
    (λ h. ap (λ (l : List ℕ). x ∷ without eqb x l) (arrived-new ks k h) ∙ ap (λ (l : List ℕ). x ∷ l) (without-append eqb x ks (k ∷ []))
    ∙ split (eqb x k)
    (λ e. let q : eqb k x ≡ true = eq-eqb k x (sym (eqb-true x k e)) in
    ap (λ (b : Bool). x ∷ (without eqb x ks ++ cond b [] (k ∷ []))) e ∙ ap (λ (l : List ℕ). x ∷ l) (append-nil (without eqb x ks))
    ∙ sym (arrived-old (x ∷ without eqb x ks) k (ap (λ (b : Bool). b || has eqb k (without eqb x ks)) q)))
    (λ e. ap (λ (b : Bool). x ∷ (without eqb x ks ++ cond b [] (k ∷ []))) e
    ∙ sym (arrived-new (x ∷ without eqb x ks) k (leaves h e))))
  where
    stays : has eqb k ks ≡ true → has eqb k (x ∷ without eqb x ks) ≡ true
    stays h =
        split (eqb k x) (λ q. ap (λ (b : Bool). b || has eqb k (without eqb x ks)) q)
        (λ q. ap (λ (b : Bool). b || has eqb k (without eqb x ks)) q
        ∙ of_T (without-has eqb eqb-equality k x ks (to-T h) (differ-swap k x q)))

    leaves : has eqb k ks ≡ false → eqb x k ≡ false → has eqb k (x ∷ without eqb x ks) ≡ false
    leaves h e =
        ap (λ (b : Bool). b || has eqb k (without eqb x ks)) (differ-swap x k e)
        ∙ split (has eqb k (without eqb x ks)) (λ q. absurd-T (has-without eqb eqb-equality k x ks (to-T q)).0 h) (λ q. q)

pub firsts_more : (xs : List ℕ) (k : ℕ) → firsts eqb (xs ++ (k ∷ [])) ≡ arrived (firsts eqb xs) k
firsts_more [] k = refl
firsts_more (x ∷ xs) k = ap (λ (l : List ℕ). x ∷ without eqb x l) (firsts_more xs k) ∙ behind x k (firsts eqb xs)

pub firsts-append : (xs ys : List ℕ) → firsts eqb (xs ++ ys) ≡ arrived_all (firsts eqb xs) ys
firsts-append xs [] = ap (firsts eqb) (append-nil xs)
firsts-append xs (y ∷ ys) =
    ap (firsts eqb) (sym (append_assoc xs (y ∷ []) ys)) ∙ firsts-append (xs ++ (y ∷ [])) ys
    ∙ ap (λ (l : List ℕ). arrived_all l ys) (firsts_more xs y)

pub arrived_all-append : (ks xs ys : List ℕ) → arrived_all ks (xs ++ ys) ≡ arrived_all (arrived_all ks xs) ys
arrived_all-append ks [] ys = refl
arrived_all-append ks (x ∷ xs) ys = arrived_all-append (arrived ks x) xs ys
