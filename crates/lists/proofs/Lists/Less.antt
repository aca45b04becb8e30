-- What is kept and taken out of a list: of two in a row, of a mapped one, those that don't stand in another; and first-seen sequence.
-- Assumes nothing.
use mathlib.Core.Path.{◌≡◌, refl, sym, ap, ◌∙◌, subst}
use mathlib.Core.Bool.{Bool, true, false, not, cond}
use mathlib.Core.List.{List, [], ◌∷◌, ◌++◌, map}
use mathlib.Core.Logic.{⊎_elim}
use lib.Dec.{T}
use Rattle.lists.specs.Lists.{all, keep, has, without, firsts}
use Rattle.lists.proofs.Bools.{both_ways, split, of_T, to-T, absurd-T, or_r, or_cases}
use Rattle.lists.proofs.Lists.Membership.{Equality, all-has, has_all, has_here, has-without, firsts-has, without-none, keep-cong}

pub keep_all : {A : Type 0} (xs : List A) → keep (λ x. true) xs ≡ xs
keep_all [] = refl
keep_all {A} (x ∷ xs) = ap (λ (l : List A). x ∷ l) (keep_all xs)

pub keep_append : {A : Type 0} (q : A → Bool) (xs ys : List A) → keep q (xs ++ ys) ≡ keep q xs ++ keep q ys
keep_append q [] ys = refl
keep_append {A} q (x ∷ xs) ys =
    split (q x) (λ e. rw e (ap (λ (l : List A). x ∷ l) (keep_append q xs ys))) (λ e. rw e (keep_append q xs ys))

pub without-append : {A : Type 0} (eq : A → A → Bool) (x : A) (xs ys : List A)
    → without eq x (xs ++ ys) ≡ without eq x xs ++ without eq x ys
without-append eq x [] ys = refl
without-append {A} eq x (z ∷ xs) ys =
    split (eq x z) (λ e. rw e (without-append eq x xs ys)) (λ e. rw e (ap (λ (l : List A). z ∷ l) (without-append eq x xs ys)))

-- those of xs that don't stand in gs
abbrev pub less : {A : Type 0} → (A → A → Bool) → List A → List A → List A
less eq gs xs = keep (λ x. not (has eq x gs)) xs

module _ {A : Type 0} (eq : A → A → Bool) (E : Equality eq) where
  pub eq_swap : (x y : A) → eq x y ≡ eq y x
  eq_swap x y =
      both_ways (eq x y) (eq y x)
      (λ t. subst (λ z. T (eq z x)) (E.sound x y t) (E.self x)) (λ t. subst (λ z. T (eq z y)) (E.sound y x t) (E.self y))

  pub less-more : (n : A) (gs xs : List A) → less eq gs (without eq n xs) ≡ less eq (n ∷ gs) xs
  less-more n gs [] = refl
  less-more n gs (x ∷ xs) =
      rw (eq_swap x n)
      (split (eq n x) (λ e. rw e (less-more n gs xs))
      (λ e. rw e (ap (λ (l : List A). cond (not (has eq x gs)) (x ∷ l) l) (less-more n gs xs))))

  -- one that stands in gs already
  pub less-again : (n : A) (gs xs : List A) → T (has eq n gs) → less eq (n ∷ gs) xs ≡ less eq gs xs
  less-again n gs xs t =
      keep-cong eq E (λ x. not (has eq x (n ∷ gs))) (λ x. not (has eq x gs)) xs
      (λ x _. ap not (both_ways (has eq x (n ∷ gs)) (has eq x gs)
      (λ h. ⊎_elim (λ s. subst (λ z. T (has eq z gs)) (sym (E.sound x n s)) t) (λ s. s) (or_cases (eq x n) (has eq x gs) h))
      (λ h. or_r (eq x n) (has eq x gs) h)))

  -- one that doesn't stand in xs
  pub less_other : (n : A) (gs xs : List A) → has eq n xs ≡ false → less eq (n ∷ gs) xs ≡ less eq gs xs
  less_other n gs xs e = sym (less-more n gs xs) ∙ ap (less eq gs) (without-none eq E n xs e)

  -- a test after a map
  pub keep-map : {B : Type 0} (p : B → Bool) (q : A → Bool) (f : A → B) (xs : List A) → ((x : A) → T (has eq x xs) → p (f x) ≡ q x)
      → keep p (map f xs) ≡ map f (keep q xs)
  keep-map p q f [] g = refl
  keep-map {B} p q f (x ∷ xs) g =
      let d : p (f x) ≡ q x = g x (has_here eq E x xs) in
      let r = keep-map p q f xs (λ y h. g y (or_r (eq y x) (has eq y xs) h)) in
      rw d (split (q x) (λ e. rw e (ap (λ (l : List B). f x ∷ l) r)) (λ e. rw e r))

  pub all_firsts : (p : A → Bool) (xs : List A) → T (all p xs) → T (all p (firsts eq xs))
  all_firsts p xs t = has_all eq E p (firsts eq xs) (λ x h. all-has eq E p xs t x (firsts-has eq E x xs h))

  -- first-seen sequence: behind what stands before, and of an element that stands twice in a row

  pub firsts-behind : (xs ys zs : List A) → firsts eq ys ≡ firsts eq zs → firsts eq (xs ++ ys) ≡ firsts eq (xs ++ zs)
  firsts-behind [] ys zs e = e
  firsts-behind (x ∷ xs) ys zs e = ap (λ (l : List A). x ∷ without eq x l) (firsts-behind xs ys zs e)

  pub firsts-again : (x : A) (xs : List A) → firsts eq (x ∷ x ∷ xs) ≡ firsts eq (x ∷ xs)
  firsts-again x xs =
      let F = without eq x (firsts eq xs) in
      let e : eq x x ≡ true = of_T (E.self x) in
      rw e (ap (λ (l : List A). x ∷ l) (without-none eq E x F
      (split (has eq x F) (λ q. absurd-T (E.self x) (has-without eq E x x (firsts eq xs) (to-T q)).1) (λ q. q))))
