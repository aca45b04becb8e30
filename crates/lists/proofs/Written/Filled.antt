-- A list of zeros filled one element after the other.
-- Assumes nothing.
use mathlib.Core.Path.{◌≡◌, sym, ap, ap₂, ◌∙◌}
use mathlib.Core.Bool.{Bool, false, cond}
use mathlib.Core.List.{List, map}
use Prim.Native.Nat.{ℕ, ◌+◌, ◌<◌, ◌≤◌}
use native.Mathlib.Omega.{arith}
use borrow.Author.Tests.{lt-ltb, le-ltb, ltb-true, ltb-false, eqb-true}
use lib.Dec.{eqb, ltb}
use lib.ListN.{length, get_or, set, length-set, take}
use lib.Seq.{ext_get_or, get_or-set_same, get_or-set_other}
use Rattle.lists.specs.Lists.{up_to}
use Rattle.lists.proofs.Bools.{split}
use Rattle.lists.proofs.Numbers.Compared.{differ}
use Rattle.lists.proofs.Numbers.UpTo.{length-map-up_to, get_or-map-up_to, map-up_to-cong, take-map-up_to}

-- of k elements, f 0 to f (p - 1) and zeros
abbrev pub filled : (ℕ → ℕ) → ℕ → ℕ → List ℕ
filled f k p = map (λ q. cond (ltb q p) (f q) 0) (up_to k)

later : (i p : ℕ) → eqb i p ≡ false → ltb i p ≡ ltb i (p + 1)
later i p e =
    let d = differ i p e in
    split (ltb i p) (λ q. q ∙ sym (lt-ltb i (p + 1) (omega (arith, ltb-true i p q))))
    (λ q. q ∙ sym (le-ltb i (p + 1) (omega (arith, ltb-false i p q))))

module _ (f : ℕ → ℕ) (k p : ℕ) (h : p < k) where
  length-stored : length (set (filled f k p) p (f p)) ≡ k
  length-stored = length-set (filled f k p) p (f p) ∙ length-map-up_to (λ q. cond (ltb q p) (f q) 0) k

  stored-at : (i : ℕ) → i < k → get_or (set (filled f k p) p (f p)) i 0 ≡ cond (ltb i (p + 1)) (f i) 0
  stored-at i l =
      split (eqb i p)
      (λ e. rw (eqb-true i p e, lt-ltb p (p + 1) (omega arith))
      (get_or-set_same (filled f k p) p (f p) 0 (omega (arith, length-map-up_to (λ q. cond (ltb q p) (f q) 0) k))))
      (λ e. get_or-set_other (filled f k p) p i (f p) 0 (differ i p e) ∙ get_or-map-up_to (λ q. cond (ltb q p) (f q) 0) k i 0 l
      ∙ ap (λ (b : Bool). cond b (f i) 0) (later i p e))

  one_more : set (filled f k p) p (f p) ≡ filled f k (p + 1)
  one_more =
      ext_get_or 0 (set (filled f k p) p (f p)) (filled f k (p + 1))
      (length-stored ∙ sym (length-map-up_to (λ q. cond (ltb q (p + 1)) (f q) 0) k))
      (λ i g. let l : i < k = omega (arith, length-stored) in
      stored-at i l ∙ sym (get_or-map-up_to (λ q. cond (ltb q (p + 1)) (f q) 0) k i 0 l))

  -- f p is stored
  pub filled_more : (l : List ℕ) (x : ℕ) → l ≡ filled f k p → x ≡ f p → set l p x ≡ filled f k (p + 1)
  filled_more l x e d = ap₂ (λ (m : List ℕ) (y : ℕ). set m p y) e d ∙ one_more

-- the first n of a list that has zeros past n
pub first-listed : (f : ℕ → ℕ) (n k : ℕ) → n ≤ k → take n (map (λ p. cond (ltb p n) (f p) 0) (up_to k)) ≡ map f (up_to n)
first-listed f n k h =
    take-map-up_to (λ p. cond (ltb p n) (f p) 0) n k h ∙ map-up_to-cong n (λ p. cond (ltb p n) (f p) 0) f (λ i l. rw (lt-ltb i n l))
