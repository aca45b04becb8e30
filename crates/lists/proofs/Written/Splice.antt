-- Laws of a list with a part of it overwritten.
-- Assumes nothing.
use mathlib.Core.Path.{◌≡◌, sym, ap, ap₂, ◌∙◌, subst}
use mathlib.Core.List.{List, [], ◌∷◌, ◌++◌, append_assoc}
use Prim.Native.Nat.{ℕ, zero, suc, ◌+◌, ◌-◌, ◌≤◌, ◌<◌}
use native.Mathlib.Nat.{add-zero, zero-add, suc-add}
use native.Mathlib.Numerals.{add-one}
use native.Mathlib.Omega.{arith}
use lib.ListN.{length, get_or, take, drop, set, length-append, length-drop, get_or-append, take-append-drop}
use lib.Seq.{length-take-le, drop-cons, take-suc, take-nil, drop-drop, take-append_seam, drop-append-add}
use lib.Seq.{set_at, set-append_left, take-set-lt, drop-set-lt, get_or-append-add, get_or-drop, get_or-take}
use Rattle.lists.specs.Written.{splice}

pub drop-take : (n k : ℕ) (l : List ℕ) → drop n (take (n + k) l) ≡ take k (drop n l)
drop-take zero k l = ap (λ (m : ℕ). take m l) (zero-add k)
drop-take (suc n) k [] = ap (drop (suc n)) (take-nil (suc n + k)) ∙ sym (take-nil k)
drop-take (suc n) k (x ∷ l) = ap (λ (m : ℕ). drop (suc n) (take m (x ∷ l))) (suc-add n k) ∙ drop-take n k l

module _ (l : List ℕ) (k : ℕ) (x : List ℕ) where
  pub splice_front : splice l k x ≡ (take k l ++ x) ++ drop (k + length x) l
  unfolding splice
  splice_front = sym (append_assoc (take k l) x (drop (k + length x) l))

  pub length_front : k ≤ length l → length (take k l ++ x) ≡ k + length x
  length_front h = length-append (take k l) x ∙ ap (λ (n : ℕ). n + length x) (length-take-le k l h)

  pub length-splice : k + length x ≤ length l → length (splice l k x) ≡ length l
  length-splice h =
      ap length splice_front
      ∙ length-append (take k l ++ x) (drop (k + length x) l)
      ∙ omega (arith, length_front (omega arith), length-drop (k + length x) l)

  -- an element stored right behind x lengthens it
  pub set-end : (v : ℕ) → k + length x < length l → set (splice l k x) (k + length x) v ≡ splice l k (x ++ (v ∷ []))
  unfolding splice
  set-end v h =
      let n = k + length x in
      let e : k + length (x ++ (v ∷ [])) ≡ suc n = omega (arith, length-append x (v ∷ [])) in
      ap (λ (y : List ℕ). set y n v) (splice_front ∙ ap (λ (y : List ℕ). (take k l ++ x) ++ y) (drop-cons l n 0 h))
      ∙ set_at (take k l ++ x) (get_or l n 0) (drop (suc n) l) v n (length_front (omega arith))
      ∙ append_assoc (take k l) x (v ∷ drop (suc n) l)
      ∙ ap (λ (y : List ℕ). take k l ++ y) (sym (append_assoc x (v ∷ []) (drop (suc n) l)))
      ∙ ap (λ (i : ℕ). take k l ++ ((x ++ (v ∷ [])) ++ drop i l)) (sym e)

-- nothing overwritten
pub splice-none : (l : List ℕ) (k : ℕ) → splice l k [] ≡ l
unfolding splice
splice-none l k = ap (λ (n : ℕ). take k l ++ drop n l) (add-zero k) ∙ take-append-drop k l

-- a part put back as it is
pub splice-same : (l : List ℕ) (k n : ℕ) → k + n ≤ length l → splice l k (take n (drop k l)) ≡ l
unfolding splice
splice-same l k n h =
    let e : k + length (take n (drop k l)) ≡ k + n = ap (λ (y : ℕ). k + y) (length-take-le n (drop k l) (omega (arith, length-drop k l))) in
    ap (λ (y : ℕ). take k l ++ (take n (drop k l) ++ drop y l)) (e)
    ∙ ap (λ (y : List ℕ). take k l ++ (take n (drop k l) ++ y)) (sym (drop-drop n k l))
    ∙ ap (λ (y : List ℕ). take k l ++ y) (take-append-drop n (drop k l))
    ∙ take-append-drop k l

-- a part that was lent and is back, as long as it was
pub put_back : (l : List ℕ) (k n : ℕ) (x : List ℕ) → length x ≡ n → take k l ++ (x ++ drop n (drop k l)) ≡ splice l k x
unfolding splice
put_back l k n x e =
    ap (λ (y : List ℕ). take k l ++ (x ++ y)) (drop-drop n k l ∙ ap (λ (y : ℕ). drop (k + y) l) (sym e))
