-- A list written over from its front: f 0 to f (k - 1), and what stood from element k on.
-- Assumes nothing.
use mathlib.Core.Path.{◌≡◌, sym, ap, ap₂, ◌∙◌}
use mathlib.Core.List.{List, [], ◌∷◌, ◌++◌, map, map-append, append_assoc}
use Prim.Native.Nat.{ℕ, suc, ◌+◌, ◌-◌, ◌≤◌, ◌<◌}
use native.Mathlib.Numerals.{add-one}
use native.Mathlib.Omega.{arith}
use lib.ListN.{length, get_or, take, drop, set, length-append, length-drop, take-append-drop, get_or-append}
use lib.Seq.{drop-cons, append_snoc, set_at, take_at, drop_at, drop-drop, drop-append-le, get_or-append-add, get_or-drop}
use Rattle.lists.specs.Lists.{up_to}
use Rattle.lists.specs.Written.{over}
use Rattle.lists.proofs.Numbers.UpTo.{length-map-up_to, get_or-map-up_to, map-up_to-add, map-up_to-cong}

module _ {A : Type 0} (f : ℕ → A) where
  -- one more element written
  pub over-more : (l : List A) (i : ℕ) → i < length l → set (over f i l) i (f i) ≡ over f (suc i) l
  over-more l i h =
      ap (λ (m : List A). set (map f (up_to i) ++ m) i (f i)) (drop-cons l i (f i) h)
      ∙ set_at (map f (up_to i)) (get_or l i (f i)) (drop (suc i) l) (f i) i (length-map-up_to f i)
      ∙ sym (append_snoc (map f (up_to i)) (f i) (drop (suc i) l))
      ∙ ap (λ (m : List A). m ++ drop (suc i) l) (sym (map-append f (up_to i) (i ∷ [])))

  -- the same, of a list in hand
  pub over-next : (l now : List A) (i : ℕ) (x : A) → i < length l → now ≡ over f i l → x ≡ f i → set now i x ≡ over f (i + 1) l
  over-next l now i x h e d = rw (add-one i) (ap₂ (λ (m : List A) (y : A). set m i y) e d ∙ over-more l i h)

  pub length_over : (k : ℕ) (l : List A) → k ≤ length l → length (over f k l) ≡ length l
  length_over k l h = omega (arith, length-append (map f (up_to k)) (drop k l), length-map-up_to f k, length-drop k l)

  pub get_d_over : (k : ℕ) (l : List A) (i : ℕ) (d : A) → i < k → get_or (over f k l) i d ≡ f i
  get_d_over k l i d h = get_or-append (map f (up_to k)) (drop k l) d i (omega (arith, length-map-up_to f k)) ∙ get_or-map-up_to f k i d h

  pub get_or-over-past : (k : ℕ) (l : List A) (i : ℕ) (d : A) → k ≤ i → get_or (over f k l) i d ≡ get_or l i d
  get_or-over-past k l i d h =
      let e : i ≡ length (map f (up_to k)) + (i - k) = omega (arith, length-map-up_to f k) in
      ap (λ (j : ℕ). get_or (over f k l) j d) e
      ∙ get_or-append-add (map f (up_to k)) (drop k l) (i - k) d
      ∙ get_or-drop k l (i - k) d
      ∙ ap (λ (j : ℕ). get_or l j d) (omega arith)

-- twice is as the second time, and by functions that agree

module _ {A : Type 0} (f g : ℕ → A) (k : ℕ) (l : List A) where
  pub over-twice : over f k (over g k l) ≡ over f k l
  over-twice = ap (λ (m : List A). map f (up_to k) ++ m) (drop_at (map g (up_to k)) (drop k l) k (length-map-up_to g k))

  pub over-cong : ((i : ℕ) → i < k → f i ≡ g i) → over f k l ≡ over g k l
  over-cong e = ap (λ (m : List A). m ++ drop k l) (map-up_to-cong k f g e)

-- a list written over as far as a, and n elements more in the part of k from there on, when that part is back
pub over-part : {A : Type 0} (f g : ℕ → A) (a k n : ℕ) (l now row : List A) → now ≡ over f a l → ((j : ℕ) → j < n → g j ≡ f (a + j))
    → n ≤ length (take k (drop a now)) → row ≡ over g n (take k (drop a now)) → take a now ++ (row ++ drop k (drop a now)) ≡ over f (a + n) l
over-part {A} f g a k n l now row e same room d =
    let front = map f (up_to a) in
    let part = map g (up_to n) in
    let rest = drop a now in
    let long : length front ≡ a = length-map-up_to f a in
    let behind : rest ≡ drop a l = ap (drop a) e ∙ drop_at front (drop a l) a long in
    let back : row ++ drop k rest ≡ part ++ drop n rest =
    ap (λ (x : List A). x ++ drop k rest) d
    ∙ append_assoc part (drop n (take k rest)) (drop k rest)
    ∙ ap (λ (x : List A). part ++ x) (sym (drop-append-le n (take k rest) (drop k rest) room) ∙ ap (drop n) (take-append-drop k rest)) in
    ap₂ (λ (x y : List A). x ++ y) (ap (take a) e ∙ take_at front (drop a l) a long)
    (back ∙ ap (λ (x : List A). part ++ drop n x) behind ∙ ap (λ (x : List A). part ++ x) (drop-drop n a l))
    ∙ sym (append_assoc front part (drop (a + n) l))
    ∙ ap (λ (x : List A). x ++ drop (a + n) l)
    (ap (λ (x : List A). front ++ x) (map-up_to-cong n g (λ j. f (a + j)) same) ∙ sym (map-up_to-add f a n))
