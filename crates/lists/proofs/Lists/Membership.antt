-- Laws of membership, index and first-seen sequence, over any test for equality; and the pigeonhole.
-- Assumes nothing.
use mathlib.Core.Path.{◌≡◌, refl, sym, ap, ap₂, ◌∙◌, subst}
use mathlib.Core.Bool.{Bool, true, false, not, ◌&&◌, ◌||◌, and_assoc}
use mathlib.Core.List.{List, [], ◌∷◌, ◌++◌, map}
use mathlib.Core.Logic.{⊎_elim}
use Prim.Native.Nat.{ℕ, zero, suc, ◌≤◌, ◌<◌, zero-le, suc-le-suc}
use native.Mathlib.Nat.{le_of_suc-le-suc, not-suc-le-zero, le_trans, le_step}
use lib.Dec.{T, eqb, eqb→eq, eqb_refl}
use lib.ListN.{length, get_or}
use Rattle.lists.specs.Lists.{all, keep, has, index, without, firsts, distinct}
use Rattle.lists.proofs.Bools.{split, of_T, of-not, to-T, to-not, absurd-T, and_T, and_l, and_r, or_l, or_r, or_cases, both_ways}

-- a test that tells whether two are equal
pub record Equality {A : Type 0} (eq : A → A → Bool) : Type 0 where
  pub sound : (x y : A) → T (eq x y) → x ≡ y
  pub self : (x : A) → T (eq x x)

pub eqb-equality : Equality eqb
eqb-equality = record { sound = eqb→eq; self = eqb_refl }

module _ {A : Type 0} where
  pub all-at : (p : A → Bool) (xs : List A) → T (all p xs) → (i : ℕ) (d : A) → i < length xs → T (p (get_or xs i d))
  all-at p [] t i d h = absurd (not-suc-le-zero h)
  all-at p (x ∷ xs) t zero d h = and_l (p x) (all p xs) t
  all-at p (x ∷ xs) t (suc i) d h = all-at p xs (and_r (p x) (all p xs) t) i d (le_of_suc-le-suc h)

  pub all_append : (p : A → Bool) (xs ys : List A) → T (all p xs) → T (all p ys) → T (all p (xs ++ ys))
  all_append p [] ys s t = t
  all_append p (x ∷ xs) ys s t = and_T (p x) (all p (xs ++ ys)) (and_l (p x) (all p xs) s) (all_append p xs ys (and_r (p x) (all p xs) s) t)

  pub all-append-and : (p : A → Bool) (xs ys : List A) → all p (xs ++ ys) ≡ all p xs && all p ys
  all-append-and p [] ys = refl
  all-append-and p (x ∷ xs) ys = ap (λ (b : Bool). p x && b) (all-append-and p xs ys) ∙ sym (and_assoc (p x) (all p xs) (all p ys))

  pub all-mapped : {B : Type 0} (q : B → Bool) (f : A → B) (xs : List A) → all q (map f xs) ≡ all (λ x. q (f x)) xs
  all-mapped q f [] = refl
  all-mapped q f (x ∷ xs) = ap (λ (b : Bool). q (f x) && b) (all-mapped q f xs)

  pub keep-length : (p : A → Bool) (xs : List A) → length (keep p xs) ≤ length xs
  keep-length p [] = zero-le
  keep-length p (x ∷ xs) =
      split (p x) (λ e. rw e (suc-le-suc (keep-length p xs))) (λ e. rw e (le_step (keep-length p xs)))

module _ {A : Type 0} (eq : A → A → Bool) (E : Equality eq) where
  eq-same : {x y : A} → x ≡ y → T (eq x y)
  eq-same {x} p = subst (λ (z : A). T (eq x z)) p (E.self x)

  -- of distinct elements: the first isn't among the others, and those are distinct
  pub apart-first : (x : A) (xs : List A) → T (distinct eq (x ∷ xs)) → has eq x xs ≡ false
  apart-first x xs t = of-not (and_l (not (has eq x xs)) (distinct eq xs) t)

  pub apart-rest : (x : A) (xs : List A) → T (distinct eq (x ∷ xs)) → T (distinct eq xs)
  apart-rest x xs t = and_r (not (has eq x xs)) (distinct eq xs) t

  pub has_here : (x : A) (xs : List A) → T (has eq x (x ∷ xs))
  has_here x xs = or_l (eq x x) (has eq x xs) (E.self x)

  pub all-has : (p : A → Bool) (xs : List A) → T (all p xs) → (x : A) → T (has eq x xs) → T (p x)
  all-has p [] t x h = absurd h
  all-has p (y ∷ ys) t x h =
      ⊎_elim (λ s. subst (λ (z : A). T (p z)) (sym (E.sound x y s)) (and_l (p y) (all p ys) t))
      (λ s. all-has p ys (and_r (p y) (all p ys) t) x s)
      (or_cases (eq x y) (has eq x ys) h)

  pub has_all : (p : A → Bool) (xs : List A) → ((x : A) → T (has eq x xs) → T (p x)) → T (all p xs)
  has_all p [] f = tt
  has_all p (y ∷ ys) f = and_T (p y) (all p ys) (f y (has_here y ys)) (has_all p ys (λ x h. f x (or_r (eq x y) (has eq x ys) h)))

  -- two tests that agree on a list keep the same of it
  pub keep-cong : (p q : A → Bool) (xs : List A) → ((x : A) → T (has eq x xs) → p x ≡ q x) → keep p xs ≡ keep q xs
  keep-cong p q [] e = refl
  keep-cong p q (x ∷ xs) e =
      let r = keep-cong p q xs (λ y h. e y (or_r (eq y x) (has eq y xs) h)) in
      let d : p x ≡ q x = e x (has_here x xs) in
      rw (d, r)

  pub has-keep : (p : A → Bool) (x : A) (xs : List A) → T (has eq x xs) → T (p x) → T (has eq x (keep p xs))
  has-keep p x [] h t = h
  has-keep p x (y ∷ ys) h t =
      ⊎_elim (λ s. let e = E.sound x y s in
      let q : p y ≡ true = of_T (subst (λ (z : A). T (p z)) e t) in
      rw q (or_l (eq x y) (has eq x (keep p ys)) s))
      (λ s. split (p y) (λ e. rw e (or_r (eq x y) (has eq x (keep p ys)) (has-keep p x ys s t))) (λ e. rw e (has-keep p x ys s t)))
      (or_cases (eq x y) (has eq x ys) h)

  pub keep-has : (p : A → Bool) (x : A) (xs : List A) → T (has eq x (keep p xs)) → T (has eq x xs) × T (p x)
  keep-has p x [] h = absurd h
  keep-has p x (y ∷ ys) h =
      split (p y)
      (λ e. let g : T (eq x y || has eq x (keep p ys)) = rw e at h in
      ⊎_elim (λ s. (or_l (eq x y) (has eq x ys) s, subst (λ (z : A). T (p z)) (sym (E.sound x y s)) (to-T e)))
      (λ s. let r = keep-has p x ys s in (or_r (eq x y) (has eq x ys) r.0, r.1))
      (or_cases (eq x y) (has eq x (keep p ys)) g))
      (λ e. let r = keep-has p x ys (rw e at h) in (or_r (eq x y) (has eq x ys) r.0, r.1))

  pub has-append-l : (x : A) (xs ys : List A) → T (has eq x xs) → T (has eq x (xs ++ ys))
  has-append-l x [] ys h = absurd h
  has-append-l x (z ∷ xs) ys h =
      ⊎_elim (λ s. or_l (eq x z) (has eq x (xs ++ ys)) s) (λ s. or_r (eq x z) (has eq x (xs ++ ys)) (has-append-l x xs ys s))
      (or_cases (eq x z) (has eq x xs) h)

  pub has-append-r : (x : A) (xs ys : List A) → T (has eq x ys) → T (has eq x (xs ++ ys))
  has-append-r x [] ys h = h
  has-append-r x (z ∷ xs) ys h = or_r (eq x z) (has eq x (xs ++ ys)) (has-append-r x xs ys h)

  -- the index of an element

  pub index-lt : (x : A) (xs : List A) → T (has eq x xs) → index eq x xs < length xs
  index-lt x [] h = absurd h
  index-lt x (y ∷ ys) h =
      split (eq x y) (λ e. rw e (suc-le-suc zero-le)) (λ e. rw e (suc-le-suc (index-lt x ys (rw e at h))))

  pub get_or-index : (x : A) (xs : List A) (d : A) → T (has eq x xs) → get_or xs (index eq x xs) d ≡ x
  get_or-index x [] d h = absurd h
  get_or-index x (y ∷ ys) d h =
      split (eq x y) (λ e. rw e (sym (E.sound x y (to-T e)))) (λ e. rw e (get_or-index x ys d (rw e at h)))

  pub has_get_d : (xs : List A) (i : ℕ) (d : A) → i < length xs → T (has eq (get_or xs i d) xs)
  has_get_d [] i d h = absurd (not-suc-le-zero h)
  has_get_d (x ∷ xs) zero d h = has_here x xs
  has_get_d (x ∷ xs) (suc i) d h = or_r (eq (get_or xs i d) x) (has eq (get_or xs i d) xs) (has_get_d xs i d (le_of_suc-le-suc h))

  pub index-get_or : (xs : List A) (i : ℕ) (d : A) → T (distinct eq xs) → i < length xs → index eq (get_or xs i d) xs ≡ i
  index-get_or [] i d t h = absurd (not-suc-le-zero h)
  index-get_or (x ∷ xs) zero d t h = let e : eq x x ≡ true = of_T (E.self x) in rw e
  index-get_or (x ∷ xs) (suc i) d t h =
      split (eq (get_or xs i d) x)
      (λ e. absurd-T (subst (λ (z : A). T (has eq z xs)) (E.sound (get_or xs i d) x (to-T e)) (has_get_d xs i d (le_of_suc-le-suc h)))
      (apart-first x xs t))
      (λ e. rw e (ap suc (index-get_or xs i d (apart-rest x xs t) (le_of_suc-le-suc h))))

  -- where none stands twice, equal elements stand at equal indices
  pub get_or-apart : (xs : List A) (i j : ℕ) (d : A) → T (distinct eq xs) → i < length xs → j < length xs → get_or xs i d ≡ get_or xs j d → i ≡ j
  get_or-apart xs i j d t h k e = sym (index-get_or xs i d t h) ∙ ap (λ (x : A). index eq x xs) e ∙ index-get_or xs j d t k

  -- an element taken out

  pub without-has : (y x : A) (xs : List A) → T (has eq y xs) → eq x y ≡ false → T (has eq y (without eq x xs))
  without-has y x [] h n = h
  without-has y x (z ∷ zs) h n =
      split (eq x z)
      (λ e. rw e (without-has y x zs (⊎_elim (λ s. absurd-T (eq-same (E.sound x z (to-T e) ∙ sym (E.sound y z s))) n) (λ s. s)
      (or_cases (eq y z) (has eq y zs) h)) n))
      (λ e. rw e
      (⊎_elim (λ s. or_l (eq y z) (has eq y (without eq x zs)) s) (λ s. or_r (eq y z) (has eq y (without eq x zs)) (without-has y x zs s n))
      (or_cases (eq y z) (has eq y zs) h)))

  pub has-without : (y x : A) (xs : List A) → T (has eq y (without eq x xs)) → T (has eq y xs) × (eq x y ≡ false)
  has-without y x [] h = absurd h
  has-without y x (z ∷ zs) h =
      split (eq x z)
      (λ e. let r = has-without y x zs (rw e at h) in (or_r (eq y z) (has eq y zs) r.0, r.1))
      (λ e. let g : T (eq y z || has eq y (without eq x zs)) = rw e at h in
      ⊎_elim (λ s. (or_l (eq y z) (has eq y zs) s, subst (λ (w : A). eq x w ≡ false) (sym (E.sound y z s)) e))
      (λ s. let r = has-without y x zs s in (or_r (eq y z) (has eq y zs) r.0, r.1))
      (or_cases (eq y z) (has eq y (without eq x zs)) g))

  pub without-none : (x : A) (xs : List A) → has eq x xs ≡ false → without eq x xs ≡ xs
  without-none x [] n = refl
  without-none x (y ∷ ys) n =
      split (eq x y) (λ e. absurd-T (or_l (eq x y) (has eq x ys) (to-T e)) n)
      (λ e. rw e (ap (λ (l : List A). y ∷ l) (without-none x ys (rw e at n))))

  pub without-le : (x : A) (xs : List A) → length (without eq x xs) ≤ length xs
  without-le x [] = zero-le
  without-le x (y ∷ ys) = split (eq x y) (λ e. rw e (le_step (without-le x ys))) (λ e. rw e (suc-le-suc (without-le x ys)))

  pub without-lt : (x : A) (xs : List A) → T (has eq x xs) → length (without eq x xs) < length xs
  without-lt x [] h = absurd h
  without-lt x (y ∷ ys) h =
      split (eq x y) (λ e. rw e (suc-le-suc (without-le x ys))) (λ e. rw e (suc-le-suc (without-lt x ys (rw e at h))))

  -- where none stands twice, one less
  pub without-length : (x : A) (xs : List A) → T (distinct eq xs) → T (has eq x xs) → suc (length (without eq x xs)) ≡ length xs
  without-length x [] t h = absurd h
  without-length x (y ∷ ys) t h =
      split (eq x y)
      (λ e. rw e (ap (λ (l : List A). suc (length l))
      (without-none x ys (subst (λ (z : A). has eq z ys ≡ false) (sym (E.sound x y (to-T e))) (apart-first y ys t)))))
      (λ e. rw e (ap suc (without-length x ys (apart-rest y ys t) (rw e at h))))

  pub distinct_without : (x : A) (xs : List A) → T (distinct eq xs) → T (distinct eq (without eq x xs))
  distinct_without x [] t = tt
  distinct_without x (y ∷ ys) t =
      split (eq x y) (λ e. rw e (distinct_without x ys (apart-rest y ys t)))
      (λ e. rw e
      (and_T (not (has eq y (without eq x ys))) (distinct eq (without eq x ys))
      (split (has eq y (without eq x ys)) (λ q. absurd-T (has-without y x ys (to-T q)).0 (apart-first y ys t)) (λ q. to-not q))
      (distinct_without x ys (apart-rest y ys t))))

  -- first-seen sequence

  pub has-firsts : (x : A) (xs : List A) → T (has eq x xs) → T (has eq x (firsts eq xs))
  has-firsts x [] h = h
  has-firsts x (y ∷ ys) h =
      split (eq x y) (λ e. or_l (eq x y) (has eq x (without eq y (firsts eq ys))) (to-T e))
      (λ e. or_r (eq x y) (has eq x (without eq y (firsts eq ys)))
      (without-has x y (firsts eq ys) (has-firsts x ys (rw e at h))
      (split (eq y x) (λ q. absurd-T (eq-same (sym (E.sound y x (to-T q)))) e) (λ q. q))))

  pub firsts-has : (x : A) (xs : List A) → T (has eq x (firsts eq xs)) → T (has eq x xs)
  firsts-has x [] h = h
  firsts-has x (y ∷ ys) h =
      ⊎_elim (λ s. or_l (eq x y) (has eq x ys) s) (λ s. or_r (eq x y) (has eq x ys) (firsts-has x ys (has-without x y (firsts eq ys) s).0))
      (or_cases (eq x y) (has eq x (without eq y (firsts eq ys))) h)

  pub distinct-firsts : (xs : List A) → T (distinct eq (firsts eq xs))
  distinct-firsts [] = tt
  distinct-firsts (x ∷ xs) =
      and_T (not (has eq x (without eq x (firsts eq xs)))) (distinct eq (without eq x (firsts eq xs)))
      (split (has eq x (without eq x (firsts eq xs))) (λ e. absurd-T (E.self x) (has-without x x (firsts eq xs) (to-T e)).1)
      (λ e. to-not e))
      (distinct_without x (firsts eq xs) (distinct-firsts xs))

  pub firsts-length : (xs : List A) → length (firsts eq xs) ≤ length xs
  firsts-length [] = zero-le
  firsts-length (x ∷ xs) = suc-le-suc (le_trans (without-le x (firsts eq xs)) (firsts-length xs))

  -- of distinct elements, all in ys, there are at most as many as ys has
  pub pigeonhole : (xs ys : List A) → T (distinct eq xs) → ((x : A) → T (has eq x xs) → T (has eq x ys)) → length xs ≤ length ys
  pigeonhole [] ys t f = zero-le
  pigeonhole (x ∷ xs) ys t f =
      let rest : length xs ≤ length (without eq x ys) =
      pigeonhole xs (without eq x ys) (apart-rest x xs t)
      (λ y h. without-has y x ys (f y (or_r (eq y x) (has eq y xs) h))
      (split (eq x y) (λ q. absurd-T (subst (λ (z : A). T (has eq z xs)) (sym (E.sound x y (to-T q))) h) (apart-first x xs t))
      (λ q. q))) in
      le_trans (suc-le-suc rest) (without-lt x ys (f x (has_here x xs)))

pub get_d_map : {A B : Type 0} (f : A → B) (xs : List A) (i : ℕ) (d : A) (e : B) → i < length xs
    → get_or (map f xs) i e ≡ f (get_or xs i d)
get_d_map f [] i d e h = absurd (not-suc-le-zero h)
get_d_map f (x ∷ xs) zero d e h = refl
get_d_map f (x ∷ xs) (suc i) d e h = get_d_map f xs i d e (le_of_suc-le-suc h)

-- where f x stands in a mapped list, some x stands in the list
pub map-has : {A B : Type 0} (eq_a : A → A → Bool) (EA : Equality eq_a) (eq_b : B → B → Bool) (EB : Equality eq_b) (f : A → B) (y : B)
    (xs : List A)
    → T (has eq_b y (map f xs)) → (x : A) × T (has eq_a x xs) × (f x ≡ y)
map-has eq_a EA eq_b EB f y [] h = absurd h
map-has eq_a EA eq_b EB f y (x ∷ xs) h =
    ⊎_elim (λ s. (x, has_here eq_a EA x xs, sym (EB.sound y (f x) s)))
    (λ s. let r = map-has eq_a EA eq_b EB f y xs s in (r.0, or_r (eq_a r.0 x) (has eq_a r.0 xs) r.1, r.2))
    (or_cases (eq_b y (f x)) (has eq_b y (map f xs)) h)

-- a test that holds of each f x
pub all_map : {A B : Type 0} (eq : A → A → Bool) (E : Equality eq) (q : B → Bool) (f : A → B) (xs : List A)
    → ((x : A) → T (has eq x xs) → T (q (f x))) → T (all q (map f xs))
all_map eq E q f [] g = tt
all_map eq E q f (x ∷ xs) g =
    and_T (q (f x)) (all q (map f xs)) (g x (has_here eq E x xs)) (all_map eq E q f xs (λ y h. g y (or_r (eq y x) (has eq y xs) h)))

pub has-map : {A B : Type 0} (eq_a : A → A → Bool) (EA : Equality eq_a) (eq_b : B → B → Bool) (EB : Equality eq_b) (f : A → B) (x : A)
    (xs : List A)
    → T (has eq_a x xs) → T (has eq_b (f x) (map f xs))
has-map eq_a EA eq_b EB f x [] h = absurd h
has-map eq_a EA eq_b EB f x (y ∷ ys) h =
    ⊎_elim (λ s. or_l (eq_b (f x) (f y)) (has eq_b (f x) (map f ys)) (subst (λ z. T (eq_b (f x) (f z))) (EA.sound x y s) (EB.self (f x))))
    (λ s. or_r (eq_b (f x) (f y)) (has eq_b (f x) (map f ys)) (has-map eq_a EA eq_b EB f x ys s))
    (or_cases (eq_a x y) (has eq_a x ys) h)

-- two functions that agree on a list
pub map-cong : {A B : Type 0} (eq : A → A → Bool) (E : Equality eq) (f g : A → B) (xs : List A)
    → ((x : A) → T (has eq x xs) → f x ≡ g x) → map f xs ≡ map g xs
map-cong eq E f g [] e = refl
map-cong eq E f g (x ∷ xs) e =
    ap₂ ◌∷◌ (e x (has_here eq E x xs)) (map-cong eq E f g xs (λ y h. e y (or_r (eq y x) (has eq y xs) h)))

-- what g undoes of f
pub map_back : {A B : Type 0} (eq : A → A → Bool) (E : Equality eq) (g : B → A) (f : A → B) (xs : List A)
    → ((x : A) → T (has eq x xs) → g (f x) ≡ x) → map g (map f xs) ≡ xs
map_back eq E g f [] e = refl
map_back eq E g f (x ∷ xs) e = ap₂ ◌∷◌ (e x (has_here eq E x xs)) (map_back eq E g f xs (λ y h. e y (or_r (eq y x) (has eq y xs) h)))

-- where f tells x from the elements of a list, f x stands in the mapped list where x does
pub index-map : {A B : Type 0} (eq_a : A → A → Bool) (EA : Equality eq_a) (eq_b : B → B → Bool) (EB : Equality eq_b) (f : A → B) (x : A)
    (xs : List A) → ((y : A) → T (has eq_a y xs) → f x ≡ f y → x ≡ y) → index eq_b (f x) (map f xs) ≡ index eq_a x xs
index-map eq_a EA eq_b EB f x [] d = refl
index-map eq_a EA eq_b EB f x (y ∷ ys) d =
    let e : eq_b (f x) (f y) ≡ eq_a x y =
    both_ways (eq_b (f x) (f y)) (eq_a x y) (λ t. eq-same eq_a EA (d y (has_here eq_a EA y ys) (EB.sound (f x) (f y) t)))
    (λ t. eq-same eq_b EB (ap f (EA.sound x y t))) in
    rw (e, index-map eq_a EA eq_b EB f x ys (λ z h. d z (or_r (eq_a z y) (has eq_a z ys) h)))
