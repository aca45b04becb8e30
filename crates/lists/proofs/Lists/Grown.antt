-- Lists that grow at their end: what is in one, whether its elements are distinct, and both of what f gives of the numbers below n.
-- Assumes nothing.
use mathlib.Core.Path.{◌≡◌, refl, sym, ap, ap₂, ◌∙◌}
use mathlib.Core.Bool.{Bool, true, false, not, ◌&&◌, ◌||◌, or_assoc, or-true, or-false}
use mathlib.Core.List.{List, [], ◌∷◌, ◌++◌, map, map-append}
use Prim.Native.Nat.{ℕ, zero, suc, ◌+◌, ◌<◌}
use native.Mathlib.Nat.{not-suc-le-zero}
use native.Mathlib.Numerals.{add-one}
use native.Mathlib.Omega.{arith}
use lib.Dec.{eqb, eqb→eq}
use lib.ListN.{length, get_or, take}
use lib.Seq.{take-suc}
use Rattle.lists.specs.Lists.{all, has, distinct, up_to}
use Rattle.lists.proofs.Bools.{split, to-T}
use Rattle.lists.proofs.Lists.Membership.{Equality}
use Rattle.lists.proofs.Lists.Less.{eq_swap}
use Rattle.lists.proofs.Numbers.Compared.{below_other, all-up_to-suc}

pub take_more : (l : List ℕ) (i : ℕ) → i < length l → take (i + 1) l ≡ take i l ++ (get_or l i 0 ∷ [])
take_more l i h = rw (add-one i) (take-suc l i 0 h)

-- one more element, tested against those before it
one_more : (a b d h : Bool) → not (a || (b || false)) && (d && not h) ≡ (not a && d) && not (b || h)
one_more true b d h = refl
one_more false true true h = refl
one_more false true false h = refl
one_more false false d h = refl

module _ {A : Type 0} (eq : A → A → Bool) where
  pub has-append : (x : A) (xs ys : List A) → has eq x (xs ++ ys) ≡ has eq x xs || has eq x ys
  has-append x [] ys = refl
  has-append x (z ∷ xs) ys =
      ap (λ (b : Bool). eq x z || b) (has-append x xs ys) ∙ sym (or_assoc (eq x z) (has eq x xs) (has eq x ys))

  module _ (E : Equality eq) where
    pub distinct_more : (xs : List A) (y : A) → distinct eq (xs ++ (y ∷ [])) ≡ distinct eq xs && not (has eq y xs)
    distinct_more [] y = refl
    distinct_more (x ∷ xs) y =
        ap₂ (λ (a b : Bool). not a && b) (has-append x xs (y ∷ [])) (distinct_more xs y)
        ∙ one_more (has eq x xs) (eq x y) (distinct eq xs) (has eq y xs)
        ∙ ap (λ (b : Bool). (not (has eq x xs) && distinct eq xs) && not (b || has eq y xs)) (eq_swap eq E x y)

  module _ (f : ℕ → A) where
    -- whether f i isn't among those of the numbers below i
    abbrev pub is_first : ℕ → Bool
    is_first i = not (has eq (f i) (map f (up_to i)))

    pub distinct-up_to : Equality eq → (n : ℕ) → distinct eq (map f (up_to n)) ≡ all is_first (up_to n)
    distinct-up_to E zero = refl
    distinct-up_to E (suc n) =
        ap (distinct eq) (map-append f (up_to n) (n ∷ [])) ∙ distinct_more E (map f (up_to n)) (f n)
        ∙ ap (λ (b : Bool). b && is_first n) (distinct-up_to E n) ∙ sym (all-up_to-suc is_first n)

    module _ (x : A) where
      pub has-up_to-suc : (n : ℕ) → has eq x (map f (up_to (suc n))) ≡ has eq x (map f (up_to n)) || eq x (f n)
      has-up_to-suc n =
          ap (has eq x) (map-append f (up_to n) (n ∷ [])) ∙ has-append x (map f (up_to n)) (f n ∷ [])
          ∙ ap (λ (b : Bool). has eq x (map f (up_to n)) || b) (or-false (eq x (f n)))

      pub has-up_to-more : (n : ℕ) → has eq x (map f (up_to n)) ≡ false → eq x (f n) ≡ false → has eq x (map f (up_to (n + 1))) ≡ false
      has-up_to-more n h e = rw (add-one n, has-up_to-suc n, h, e)

      pub has-up_to-none : (n : ℕ) → ((j : ℕ) → j < n → eq x (f j) ≡ false) → has eq x (map f (up_to n)) ≡ false
      has-up_to-none zero e = refl
      has-up_to-none (suc n) e =
          let h : has eq x (map f (up_to n)) ≡ false = has-up_to-none n (λ j b. e j (omega arith)) in
          rw (has-up_to-suc n, h, e n (omega arith))

      pub has-up_to-at : (n j : ℕ) → j < n → eq x (f j) ≡ true → has eq x (map f (up_to n)) ≡ true
      has-up_to-at zero j h e = absurd (not-suc-le-zero h)
      has-up_to-at (suc n) j h e =
          has-up_to-suc n
          ∙ split (eqb j n)
          (λ q. ap (λ (k : ℕ). has eq x (map f (up_to n)) || eq x (f k)) (sym (eqb→eq j n (to-T q)))
          ∙ ap (λ (b : Bool). has eq x (map f (up_to n)) || b) e ∙ or-true (has eq x (map f (up_to n))))
          (λ q. ap (λ (b : Bool). b || eq x (f n)) (has-up_to-at n j (below_other j n h q) e))
