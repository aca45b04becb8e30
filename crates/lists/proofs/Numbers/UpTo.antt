-- What f gives of each number below n, as a list: how long it is, what it has at an index, its first elements, its first by itself, one element more,
-- such a list in two parts, two that are equal, and a part of a list by its indices.
-- Assumes nothing.
use mathlib.Core.Path.{◌≡◌, refl, sym, ap, ap₂, ◌∙◌}
use mathlib.Core.Bool.{Bool}
use mathlib.Core.List.{List, [], ◌∷◌, ◌++◌, map, map-append, map-id, append_assoc, append-nil}
use Prim.Native.Nat.{ℕ, zero, suc, ◌+◌, ◌≤◌, ◌<◌}
use native.Mathlib.Nat.{add-zero, add-suc, not-suc-le-zero}
use native.Mathlib.Numerals.{add-one}
use native.Mathlib.Omega.{arith}
use lib.Dec.{eqb, eqb→eq}
use lib.ListN.{length, get_or, take, drop, length-take, length-map, get_or-append}
use lib.Seq.{get_or_at, get_or-take, ext_get_or, drop-cons, length-take-le}
use Rattle.lists.specs.Lists.{up_to, all}
use Rattle.lists.proofs.Bools.{split, to-T}
use Rattle.lists.proofs.Numbers.Compared.{below_other, length-up_to}
use Rattle.lists.proofs.Lists.Membership.{all-mapped}

module _ {A : Type 0} (f : ℕ → A) where
  pub length-map-up_to : (n : ℕ) → length (map f (up_to n)) ≡ n
  length-map-up_to n = length-map (up_to n) f ∙ length-up_to n

  -- one number more
  pub map-up_to-more : (n : ℕ) → map f (up_to (n + 1)) ≡ map f (up_to n) ++ (f n ∷ [])
  map-up_to-more n = rw (add-one n) (map-append f (up_to n) (n ∷ []))

  -- the first by itself
  pub map-up_to-first : (n : ℕ) → map f (up_to (suc n)) ≡ f 0 ∷ map (λ j. f (suc j)) (up_to n)
  map-up_to-first zero = refl
  map-up_to-first (suc n) =
      map-append f (up_to (suc n)) (suc n ∷ []) ∙ ap (λ (l : List A). l ++ (f (suc n) ∷ [])) (map-up_to-first n)
      ∙ ap (λ (l : List A). f 0 ∷ l) (sym (map-append (λ j. f (suc j)) (up_to n) (n ∷ [])))

  pub get_or-map-up_to : (n j : ℕ) (d : A) → j < n → get_or (map f (up_to n)) j d ≡ f j
  get_or-map-up_to zero j d h = absurd (not-suc-le-zero h)
  get_or-map-up_to (suc n) j d h =
      let e = length-map-up_to n in
      ap (λ l. get_or l j d) (map-append f (up_to n) (n ∷ []))
      ∙ split (eqb j n) (λ q. rw (eqb→eq j n (to-T q)) (get_or_at (map f (up_to n)) (f n) [] d n e))
      (λ q. let k : j < n = below_other j n h q in
      get_or-append (map f (up_to n)) (f n ∷ []) d j (rw e k) ∙ get_or-map-up_to n j d k)

  -- the first n of a longer such list
  pub take-map-up_to : (n k : ℕ) → n ≤ k → take n (map f (up_to k)) ≡ map f (up_to n)
  take-map-up_to n k h =
      let l : length (take n (map f (up_to k))) ≡ n = omega (arith, length-take n (map f (up_to k)), length-map-up_to k) in
      ext_get_or (f 0) (take n (map f (up_to k))) (map f (up_to n)) (omega (arith, length-map-up_to n))
      (λ i g. let j : i < n = omega arith in
      get_or-take n (map f (up_to k)) i (f 0) j ∙ get_or-map-up_to k i (f 0) (omega arith) ∙ sym (get_or-map-up_to n i (f 0) j))

  -- those below m, then those from m on
  pub map-up_to-add : (m n : ℕ) → map f (up_to (m + n)) ≡ map f (up_to m) ++ map (λ j. f (m + j)) (up_to n)
  map-up_to-add m zero = ap (λ k. map f (up_to k)) (add-zero m) ∙ sym (append-nil (map f (up_to m)))
  map-up_to-add m (suc n) =
      ap (λ k. map f (up_to k)) (add-suc m n) ∙ map-append f (up_to (m + n)) ((m + n) ∷ [])
      ∙ ap (λ (l : List A). l ++ (f (m + n) ∷ [])) (map-up_to-add m n)
      ∙ append_assoc (map f (up_to m)) (map (λ j. f (m + j)) (up_to n)) (f (m + n) ∷ [])
      ∙ ap (λ (l : List A). map f (up_to m) ++ l) (sym (map-append (λ j. f (m + j)) (up_to n) (n ∷ [])))

pub map-up_to-cong : {A : Type 0} (n : ℕ) (f g : ℕ → A) → ((j : ℕ) → j < n → f j ≡ g j) → map f (up_to n) ≡ map g (up_to n)
map-up_to-cong zero f g e = refl
map-up_to-cong {A} (suc n) f g e =
    map-append f (up_to n) (n ∷ [])
    ∙ ap₂ (λ (l : List A) (x : A). l ++ (x ∷ [])) (map-up_to-cong n f g (λ j h. e j (omega arith))) (e n (omega arith))
    ∙ sym (map-append g (up_to n) (n ∷ []))

pub get_or-up_to : (n j : ℕ) → j < n → get_or (up_to n) j 0 ≡ j
get_or-up_to n j h = ap (λ l. get_or l j 0) (sym (map-id (up_to n))) ∙ get_or-map-up_to (λ k. k) n j 0 h

-- the n elements from index b on, then those after them
pub up_to-drop : {A : Type 0} (l : List A) (b n : ℕ) (x : A) → b + n ≤ length l
    → map (λ i. get_or l (b + i) x) (up_to n) ++ drop (b + n) l ≡ drop b l
up_to-drop l b zero x h = ap (λ k. drop k l) (add-zero b)
up_to-drop {A} l b (suc n) x h =
    let f : ℕ → A = λ i. get_or l (b + i) x in
    ap (λ (m : List A). m ++ drop (b + suc n) l) (map-append f (up_to n) (n ∷ []))
    ∙ append_assoc (map f (up_to n)) (f n ∷ []) (drop (b + suc n) l)
    ∙ ap (λ (k : ℕ). map f (up_to n) ++ (f n ∷ drop k l)) (add-suc b n)
    ∙ ap (λ (m : List A). map f (up_to n) ++ m) (sym (drop-cons l (b + n) x (omega arith)))
    ∙ up_to-drop l b n x (omega arith)

pub first-elements : (m : ℕ) (l : List ℕ) → m ≤ length l → take m l ≡ map (λ j. get_or l j 0) (up_to m)
first-elements m l h =
    let f : ℕ → ℕ = λ j. get_or l j 0 in
    let k : length (take m l) ≡ m = length-take-le m l h in
    ext_get_or 0 (take m l) (map f (up_to m)) (k ∙ sym (length-map-up_to f m))
    (λ j b. let a : j < m = omega arith in get_or-take m l j 0 a ∙ sym (get_or-map-up_to f m j 0 a))
