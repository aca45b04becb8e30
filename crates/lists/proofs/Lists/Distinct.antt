-- Lists in which none stands twice: of what a function makes of such a list, and of two lists in a row.
-- Assumes nothing.
use mathlib.Core.Path.{◌≡◌, subst}
use mathlib.Core.Bool.{Bool, false, not}
use mathlib.Core.List.{List, [], ◌∷◌, ◌++◌, map}
use mathlib.Core.Logic.{◌⊎◌, ⊎_elim}
use lib.Dec.{T}
use Rattle.lists.specs.Lists.{has, distinct}
use Rattle.lists.proofs.Bools.{split, to-T, to-not, absurd-T, and_T, or_r, or_cases}
use Rattle.lists.proofs.Lists.Grown.{has-append}
use Rattle.lists.proofs.Lists.Membership.{Equality, has_here, map-has, apart-first, apart-rest}

-- none stands twice in a list of what f makes of distinct elements, where f makes different ones of them
pub distinct-map : {A B : Type 0} (eq_a : A → A → Bool) (EA : Equality eq_a) (eq_b : B → B → Bool) (EB : Equality eq_b) (f : A → B)
    (xs : List A)
    → T (distinct eq_a xs) → ((x y : A) → T (has eq_a x xs) → T (has eq_a y xs) → f x ≡ f y → x ≡ y) → T (distinct eq_b (map f xs))
distinct-map eq_a EA eq_b EB f [] t g = tt
distinct-map eq_a EA eq_b EB f (x ∷ xs) t g =
    let new : has eq_b (f x) (map f xs) ≡ false =
    split (has eq_b (f x) (map f xs))
    (λ e. let r = map-has eq_a EA eq_b EB f (f x) xs (to-T e) in
    let q : r.0 ≡ x = g r.0 x (or_r (eq_a r.0 x) (has eq_a r.0 xs) r.1) (has_here eq_a EA x xs) r.2 in
    absurd-T (subst (λ z. T (has eq_a z xs)) q r.1) (apart-first eq_a EA x xs t))
    (λ e. e) in
    and_T (not (has eq_b (f x) (map f xs))) (distinct eq_b (map f xs)) (to-not new)
    (distinct-map eq_a EA eq_b EB f xs (apart-rest eq_a EA x xs t)
    (λ y z h k. g y z (or_r (eq_a y x) (has eq_a y xs) h) (or_r (eq_a z x) (has eq_a z xs) k)))

module _ {A : Type 0} (eq : A → A → Bool) (E : Equality eq) where
  append-has : (x : A) (xs ys : List A) → T (has eq x (xs ++ ys)) → T (has eq x xs) ⊎ T (has eq x ys)
  append-has x xs ys h = or_cases (has eq x xs) (has eq x ys) (subst T (has-append eq x xs ys) h)

  -- two lists of distinct elements that share none
  pub distinct_append : (xs ys : List A) → T (distinct eq xs) → T (distinct eq ys) → ((x : A) → T (has eq x xs) → has eq x ys ≡ false)
      → T (distinct eq (xs ++ ys))
  distinct_append [] ys s t g = t
  distinct_append (x ∷ xs) ys s t g =
      let new : has eq x (xs ++ ys) ≡ false =
      split (has eq x (xs ++ ys))
      (λ e. ⊎_elim (λ k. absurd-T k (apart-first eq E x xs s)) (λ k. absurd-T k (g x (has_here eq E x xs)))
      (append-has x xs ys (to-T e)))
      (λ e. e) in
      and_T (not (has eq x (xs ++ ys))) (distinct eq (xs ++ ys)) (to-not new)
      (distinct_append xs ys (apart-rest eq E x xs s) t (λ y h. g y (or_r (eq y x) (has eq y xs) h)))
