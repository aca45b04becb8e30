-- Several parts of a list overwritten, and what stands outside of them.
-- Assumes nothing.
use mathlib.Core.Path.{◌≡◌, sym, ap, ap₂, ◌∙◌}
use mathlib.Core.List.{List, ◌++◌, append_assoc}
use Prim.Native.Nat.{ℕ, ◌+◌, ◌-◌, ◌≤◌}
use native.Mathlib.Omega.{arith}
use lib.ListN.{length, take, drop, length-append, length-take, length-drop}
use lib.Seq.{length-take-le, take_at, drop_at, take-append-le, drop-append-le, take-append-add, drop-append-add, take-take, drop-drop}
use Rattle.lists.specs.Written.{splice}
use Rattle.lists.proofs.Written.Splice.{splice_front, length_front, drop-take}

-- a sum's difference taken out of a drop
drop-split : (l : List ℕ) (n m : ℕ) → n ≤ m → drop (m - n) (drop n l) ≡ drop m l
drop-split l n m h =
    let e : n + (m - n) ≡ m = omega arith in
    drop-drop (m - n) n l ∙ ap (λ (y : ℕ). drop y l) e

take_split : (l : List ℕ) (n m : ℕ) → n ≤ m → drop n (take m l) ≡ take (m - n) (drop n l)
take_split l n m h =
    let e : m ≡ n + (m - n) = omega arith in
    ap (λ (y : ℕ). drop n (take y l)) e ∙ drop-take n (m - n) l

-- a part of the first m elements
pub window-within : (l : List ℕ) (n j m : ℕ) → n + j ≤ m → take j (drop n (take m l)) ≡ take j (drop n l)
window-within l n j m h = ap (take j) (take_split l n m (omega arith)) ∙ take-take j (m - n) (drop n l) (omega arith)

module _ (l : List ℕ) (k : ℕ) (x : List ℕ) (in_List : k ≤ length l) where
  take_whole : length (take k l) ≡ k
  take_whole = length-take-le k l in_List

  take-front : (n : ℕ) → k + length x ≤ n → take n (splice l k x) ≡ (take k l ++ x) ++ take (n - (k + length x)) (drop (k + length x) l)
  take-front n h =
      let e : n ≡ length (take k l ++ x) + (n - (k + length x)) = omega (arith, length_front l k x in_List) in
      ap₂ take e (splice_front l k x) ∙ take-append-add (take k l ++ x) (drop (k + length x) l) (n - (k + length x))

  -- before x, at x and behind it
  pub take-before : (n : ℕ) → n ≤ k → take n (splice l k x) ≡ take n l
  unfolding splice
  take-before n h =
      take-append-le n (take k l) (x ++ drop (k + length x) l) (omega (arith, take_whole)) ∙ take-take n k l h

  drop-before : (n : ℕ) → n ≤ k → drop n (splice l k x) ≡ take (k - n) (drop n l) ++ (x ++ drop (k + length x) l)
  unfolding splice
  drop-before n h =
      drop-append-le n (take k l) (x ++ drop (k + length x) l) (omega (arith, take_whole))
      ∙ ap (λ (y : List ℕ). y ++ (x ++ drop (k + length x) l)) (take_split l n k h)

  pub drop_here : drop k (splice l k x) ≡ x ++ drop (k + length x) l
  unfolding splice
  drop_here = drop_at (take k l) (x ++ drop (k + length x) l) k take_whole

  pub drop-behind : (n : ℕ) → k + length x ≤ n → drop n (splice l k x) ≡ drop n l
  drop-behind n h =
      let e : n ≡ length (take k l ++ x) + (n - (k + length x)) = omega (arith, length_front l k x in_List) in
      ap₂ drop e (splice_front l k x)
      ∙ drop-append-add (take k l ++ x) (drop (k + length x) l) (n - (k + length x))
      ∙ drop-split l (k + length x) n h

  -- a part that ends before x
  pub window-before : (n j : ℕ) → n + j ≤ k → take j (drop n (splice l k x)) ≡ take j (drop n l)
  window-before n j h =
      ap (take j) (drop-before n (omega arith))
      ∙ take-append-le j (take (k - n) (drop n l)) (x ++ drop (k + length x) l)
      (omega (arith, length-take (k - n) (drop n l), length-drop n l))
      ∙ take-take j (k - n) (drop n l) (omega arith)

  -- x overwritten by something that is no shorter
  pub splice-over : (y : List ℕ) → length x ≤ length y → splice (splice l k x) k y ≡ splice l k y
  unfolding splice
  splice-over y h =
      ap₂ (λ (a b : List ℕ). a ++ (y ++ b)) (take-before k (omega arith)) (drop-behind (k + length y) (omega arith))

  -- y right behind x
  pub splice-append : (y : List ℕ) → splice (splice l k x) (k + length x) y ≡ splice l k (x ++ y)
  unfolding splice
  splice-append y =
      let n = k + length x in
      let e : n + length y ≡ k + length (x ++ y) = omega (arith, length-append x y) in
      ap₂ (λ (a b : List ℕ). a ++ (y ++ b))
      (ap (take n) (splice_front l k x) ∙ take_at (take k l ++ x) (drop n l) n (length_front l k x in_List))
      (drop-behind (n + length y) (omega arith) ∙ ap (λ (m : ℕ). drop m l) e)
      ∙ append_assoc (take k l) x (y ++ drop (k + length (x ++ y)) l)
      ∙ ap (λ (b : List ℕ). take k l ++ b) (sym (append_assoc x y (drop (k + length (x ++ y)) l)))

-- two parts apart are overwritten in either sequence
pub splice-swap : (l : List ℕ) (j k : ℕ) (x y : List ℕ) → j + length x ≤ k → k ≤ length l
    → splice (splice l k y) j x ≡ splice (splice l j x) k y
unfolding splice
splice-swap l j k x y h m =
    let n = j + length x in
    let rest = y ++ drop (k + length y) l in
    ap₂ (λ (a b : List ℕ). a ++ (x ++ b)) (take-before l k y m j (omega arith)) (drop-before l k y m n h)
    ∙ sym
    (ap₂ (λ (a b : List ℕ). a ++ (y ++ b)) (take-front l j x (omega arith) k h)
    (drop-behind l j x (omega arith) (k + length y) (omega arith))
    ∙ append_assoc (take j l ++ x) (take (k - n) (drop n l)) rest
    ∙ append_assoc (take j l) x (take (k - n) (drop n l) ++ rest))
