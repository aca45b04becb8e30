-- An order in which one variable has moved, entry by entry: the others are those before it and those behind it, and the
-- entries stored one after the other make diagram's `moved`.
-- Assumes nothing.
use mathlib.Core.Path.{◌≡◌, refl, sym, ap, ap₂, ◌∙◌, subst}
use mathlib.Core.Bool.{false, cond}
use mathlib.Core.List.{List, [], ◌∷◌, ◌++◌}
use Prim.Native.Nat.{ℕ, zero, suc, ◌+◌, ◌-◌, ◌≤◌, ◌<◌, zero-le}
use native.Mathlib.Numerals.{add-one}
use native.Mathlib.Omega.{arith}
use borrow.Author.Tests.{lt-ltb, le-ltb, eq-eqb, ne_eqb, ltb-true, ltb-false, eqb-true, eqb-false}
use lib.Dec.{T, eqb, ltb, eqb→eq, leb-suc-suc}
use lib.ListN.{length, get_or, set, take, drop, get_or-append}
use lib.Seq.{length-take-le, get_or_at, get_or-append-add, get_or-take, get_or-drop}
use Rattle.lists.specs.Lists.{has, index, without, distinct}
use Rattle.lists.proofs.Written.Paste.{paste_more, paste_all}
use Rattle.lists.proofs.Bools.{split, to-T}
use Rattle.lists.proofs.Lists.Membership.{eqb-equality, apart-first, apart-rest, without-none, without-length}
use Rattle.diagram.specs.Orders.Order.{is_order, moved}
use Rattle.diagram.proofs.Orders.Order.{order-length, order-distinct, every-variable}
use Rattle.diagram.proofs.Orders.Moved.{moved_order}
use Rattle.sift.specs.Inner.Entries.{other_entry, moved_entry}

-- the others

pub other-before : (order : List ℕ) (q j : ℕ) → j < q → other_entry order q j ≡ get_or order j 0
unfolding other_entry
other-before order q j h = rw (lt-ltb j q h)

pub other-behind : (order : List ℕ) (q j : ℕ) → q ≤ j → other_entry order q j ≡ get_or order (j + 1) 0
unfolding other_entry
other-behind order q j h = rw (add-one, le-ltb j q h)

pub moved-above : (order : List ℕ) (v q p i : ℕ) → i < p → moved_entry order v q p i ≡ other_entry order q i
unfolding moved_entry
moved-above order v q p i h = rw (lt-ltb i p h)

pub moved_here : (order : List ℕ) (v q p i : ℕ) → i ≡ p → moved_entry order v q p i ≡ v
unfolding moved_entry
moved_here order v q p i e = rw (le-ltb i p (omega arith), eq-eqb i p e)

pub moved-below : (order : List ℕ) (v q p i : ℕ) → p ≤ i → (i ≡ p → ⊥) → moved_entry order v q p i ≡ other_entry order q (i - 1)
unfolding moved_entry
moved-below order v q p i h e = rw (le-ltb i p h, ne_eqb i p e)

-- where v stands first the others are the rest; else the first is one of them

other-tail : (x : ℕ) (xs : List ℕ) (j : ℕ) → other_entry (x ∷ xs) 0 j ≡ get_or xs j 0
unfolding other_entry
other-tail x xs j = rw (le-ltb j 0 zero-le)

other-first : (x : ℕ) (xs : List ℕ) (q : ℕ) → other_entry (x ∷ xs) (suc q) 0 ≡ x
unfolding other_entry
other-first x xs q = rw (lt-ltb 0 (suc q) (omega arith))

other-next : (x : ℕ) (xs : List ℕ) (q j : ℕ) → other_entry (x ∷ xs) (suc q) (suc j) ≡ other_entry xs q j
unfolding other_entry
other-next x xs q j = rw (leb-suc-suc (suc j) q)

behind-first : (x : ℕ) (xs ys : List ℕ) (q : ℕ) → ((j : ℕ) → get_or ys j 0 ≡ other_entry xs q j) → (j : ℕ)
    → get_or (x ∷ ys) j 0 ≡ other_entry (x ∷ xs) (suc q) j
behind-first x xs ys q f zero = sym (other-first x xs q)
behind-first x xs ys q f (suc j) = f j ∙ sym (other-next x xs q j)

pub without_at : (v : ℕ) (xs : List ℕ) → T (distinct eqb xs) → T (has eqb v xs) → (j : ℕ)
    → get_or (without eqb v xs) j 0 ≡ other_entry xs (index eqb v xs) j
without_at v [] d h j = absurd h
without_at v (x ∷ xs) d h j =
    split (eqb v x)
    (λ e. let none : has eqb v xs ≡ false =
    subst (λ (z : ℕ). has eqb z xs ≡ false) (sym (eqb→eq v x (to-T e))) (apart-first eqb eqb-equality x xs d) in
    rw e (ap (λ (l : List ℕ). get_or l j 0) (without-none eqb eqb-equality v xs none) ∙ sym (other-tail x xs j)))
    (λ e. rw e
    (behind-first x xs (without eqb v xs) (index eqb v xs) (without_at v xs (apart-rest eqb eqb-equality x xs d) (rw e at h)) j))

-- past the first n entries nothing is looked at
other-take : (n : ℕ) (l : List ℕ) (q j : ℕ) → suc j < n → other_entry (take n l) q j ≡ other_entry l q j
unfolding other_entry
other-take n l q j h =
    ap₂ (λ (x y : ℕ). cond (ltb j q) x y) (get_or-take n l j 0 (omega arith)) (get_or-take n l (suc j) 0 h)

-- the entries of the moved order, by whether they stand above p, at p or below it
module _ (n : ℕ) (l : List ℕ) (o : T (is_order n (take n l))) (v p : ℕ) (hv : v < n) (hp : p < n) where
  others : List ℕ
  others = without eqb v (take n l)

  length-others : suc (length others) ≡ n
  unfolding others
  length-others =
      without-length eqb eqb-equality v (take n l) (order-distinct n (take n l) o) (every-variable n (take n l) o v hv)
      ∙ order-length n (take n l) o

  length_above : length (take p others) ≡ p
  length_above = length-take-le p others (omega (arith, length-others))

  others-at : (j : ℕ) → suc j < n → get_or others j 0 ≡ other_entry l (index eqb v (take n l)) j
  unfolding others
  others-at j h =
      without_at v (take n l) (order-distinct n (take n l) o) (every-variable n (take n l) o v hv) j
      ∙ other-take n l (index eqb v (take n l)) j h

  moved-others : moved v p (take n l) ≡ take p others ++ (v ∷ drop p others)
  unfolding moved others
  moved-others = refl

  at_above : (i : ℕ) → i < p → get_or (take p others ++ (v ∷ drop p others)) i 0 ≡ other_entry l (index eqb v (take n l)) i
  at_above i h =
      get_or-append (take p others) (v ∷ drop p others) 0 i (omega (arith, length_above))
      ∙ get_or-take p others i 0 h ∙ others-at i (omega arith)

  at-below : (i : ℕ) → i < n → p < i → get_or (take p others ++ (v ∷ drop p others)) i 0 ≡ other_entry l (index eqb v (take n l)) (i - 1)
  at-below i b h =
      let k : length (take p others) + suc (i - suc p) ≡ i = omega (arith, length_above) in
      let j : p + (i - suc p) ≡ i - 1 = omega arith in
      ap (λ (m : ℕ). get_or (take p others ++ (v ∷ drop p others)) m 0) (sym k)
      ∙ get_or-append-add (take p others) (v ∷ drop p others) (suc (i - suc p)) 0
      ∙ get_or-drop p others (i - suc p) 0
      ∙ ap (λ (m : ℕ). get_or others m 0) j ∙ others-at (i - 1) (omega arith)

  entry_at : (i : ℕ) → i < n → get_or (take p others ++ (v ∷ drop p others)) i 0 ≡ moved_entry l v (index eqb v (take n l)) p i
  entry_at i b =
      split (ltb i p)
      (λ e. let h = ltb-true i p e in at_above i h ∙ sym (moved-above l v (index eqb v (take n l)) p i h))
      (λ e. let h = ltb-false i p e in
      split (eqb i p)
      (λ q. let g = eqb-true i p q in
      get_or_at (take p others) v (drop p others) 0 i (length_above ∙ sym g) ∙ sym (moved_here l v (index eqb v (take n l)) p i g))
      (λ q. let g = eqb-false i p q in
      at-below i b (omega arith) ∙ sym (moved-below l v (index eqb v (take n l)) p i h g)))

  pub moved_at : (i : ℕ) → i < n → moved_entry l v (index eqb v (take n l)) p i ≡ get_or (moved v p (take n l)) i 0
  moved_at i b = sym (ap (λ (xs : List ℕ). get_or xs i 0) moved-others ∙ entry_at i b)

  pub length_moved : length (moved v p (take n l)) ≡ n
  length_moved = order-length n (moved v p (take n l)) (moved_order n v p (take n l) o hv)

  -- the entry of level i is stored
  pub moved_more : (i : ℕ) → i < n → n ≤ length l → (after : List ℕ) (x q : ℕ) → after ≡ take i (moved v p (take n l)) ++ drop i l
      → q ≡ index eqb v (take n l) → x ≡ moved_entry l v q p i → set after i x ≡ take (i + 1) (moved v p (take n l)) ++ drop (i + 1) l
  moved_more i b k after x q e f d =
      let y : x ≡ get_or (moved v p (take n l)) i 0 = d ∙ ap (λ (r : ℕ). moved_entry l v r p i) f ∙ moved_at i b in
      ap₂ (λ (ys : List ℕ) (z : ℕ). set ys i z) e y
      ∙ paste_more (moved v p (take n l)) l i (omega (arith, length_moved)) (omega arith)

  pub moved-whole : (i : ℕ) → i ≡ n → (after : List ℕ) → after ≡ take i (moved v p (take n l)) ++ drop i l
      → after ≡ moved v p (take n l) ++ drop n l
  moved-whole i d after e =
      e ∙ paste_all (moved v p (take n l)) l i (omega (arith, length_moved)) ∙ ap (λ (m : ℕ). moved v p (take n l) ++ drop m l) d
