-- An order tested one entry at a time: what is left of it from level i on.
-- Assumes nothing.
use mathlib.Core.Path.{◌≡◌, refl, sym, ap, ap₂, ◌∙◌}
use mathlib.Core.Bool.{Bool, true, false, ◌&&◌, ◌||◌, and-false}
use mathlib.Core.List.{List, [], ◌∷◌}
use Prim.Native.Nat.{ℕ, suc, ◌+◌, ◌-◌, ◌≤◌, ◌<◌}
use native.Mathlib.Omega.{arith}
use native.Mathlib.Numerals.{add-one}
use borrow.Author.Tests.{lt-ltb, le-ltb, eq-eqb, eqb-true}
use lib.Dec.{eqb, ltb}
use lib.ListN.{length, get_or, take, drop}
use lib.Seq.{length-take-le}
use Rattle.std.specs.List.{list_any}
use Rattle.std.proofs.lemmas.List.{drop-take}
use Rattle.lists.specs.Lists.{all, has, distinct}
use Rattle.lists.proofs.Bools.{split}
use Rattle.lists.proofs.Numbers.Compared.{differ-swap}
use Rattle.lists.proofs.Written.Rest.{rest, rest-cons, rest-none}
use Rattle.diagram.specs.Orders.Order.{is_order}

-- whether v is among the entries left, as std's `contains` tests it

eqb-swap : (m n : ℕ) → eqb m n ≡ eqb n m
eqb-swap m n =
    split (eqb n m) (λ e. eq-eqb m n (sym (eqb-true n m e)) ∙ sym e)
    (λ e. differ-swap n m e ∙ sym e)

pub has-listed : (v : ℕ) (l : List ℕ) → list_any (λ y. eqb y v) l ≡ has eqb v l
has-listed v [] = refl
has-listed v (y ∷ ys) = ap₂ (λ (a b : Bool). a || b) (eqb-swap y v) (has-listed v ys)

pub listed-later : (v : ℕ) (l : List ℕ) (n i : ℕ) → i < n
    → list_any (λ y. eqb y v) (take (n - (i + 1)) (drop (i + 1) l)) ≡ has eqb v (rest l n (suc i))
listed-later v l n i h =
    let k : i + 1 + (n - (i + 1)) ≡ n = omega arith in
    has-listed v (take (n - (i + 1)) (drop (i + 1) l))
    ∙ ap (has eqb v) (sym (drop-take (i + 1) (n - (i + 1)) l) ∙ ap₂ (λ (j m : ℕ). drop j (take m l)) (add-one i) k)

-- entries below n, none twice: what an order is but for its length
unfoldable pub fine : ℕ → List ℕ → Bool
fine n l = all (λ v. ltb v n) l && distinct eqb l

pub order_fine : (n : ℕ) (l : List ℕ) → n ≤ length l → is_order n (take n l) ≡ fine n (rest l n 0)
unfolding is_order fine
order_fine n l k = rw (eq-eqb (length (take n l)) n (length-take-le n l k))

pub fine_high : (l : List ℕ) (n i : ℕ) → n ≤ length l → i < n → n ≤ get_or l i 0 → fine n (rest l n i) ≡ false
unfolding fine
fine_high l n i k h g = rw (rest-cons l n i k h, le-ltb (get_or l i 0) n g)

pub fine_again : (l : List ℕ) (n i : ℕ) → n ≤ length l → i < n → has eqb (get_or l i 0) (rest l n (suc i)) ≡ true
    → fine n (rest l n i) ≡ false
unfolding fine
fine_again l n i k h e =
    rw (rest-cons l n i k h, e) (and-false (ltb (get_or l i 0) n && all (λ v. ltb v n) (rest l n (suc i))))

pub fine_next : (l : List ℕ) (n i : ℕ) → n ≤ length l → i < n → get_or l i 0 < n → has eqb (get_or l i 0) (rest l n (suc i)) ≡ false
    → fine n (rest l n i) ≡ fine n (rest l n (i + 1))
unfolding fine
fine_next l n i k h g e = rw (add-one, rest-cons l n i k h, lt-ltb (get_or l i 0) n g, e)

pub fine_none : (l : List ℕ) (n i : ℕ) → n ≤ length l → n ≤ i → fine n (rest l n i) ≡ true
unfolding fine
fine_none l n i k h = rw (rest-none l n i k h)

-- what the loop over the entries cites
pub ruleset entry_tests = (order_fine, fine_high, fine_again, fine_next, fine_none)
