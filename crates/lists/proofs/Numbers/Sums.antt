-- Sums of a function's values at 0 to k - 1.
-- Assumes nothing.
use mathlib.Core.Path.{◌≡◌, refl, sym, ap, ap₂, ◌∙◌}
use mathlib.Core.Bool.{Bool}
use Prim.Native.Nat.{ℕ, zero, suc, ◌+◌, ◌-◌, ◌≤◌, ◌<◌, min}
use native.Mathlib.Nat.{add-zero, add_assoc}
use native.Mathlib.Omega.{arith}
use native.Mathlib.Numerals.{add-one}
use borrow.Author.Tests.{eq-eqb, ne_eqb}
use lib.Dec.{eqb, eqb→eq}
use Rattle.lists.specs.Bits.{digit}
use Rattle.lists.specs.Sums.{sum_below}
use Rattle.lists.proofs.Bools.{split, to-T}
use Rattle.lists.proofs.Bits.Digits.{digit-le}
use Rattle.lists.proofs.Numbers.Compared.{below_other}

pub sum-cong : (f g : ℕ → ℕ) (k : ℕ) → ((i : ℕ) → i < k → f i ≡ g i) → sum_below f k ≡ sum_below g k
sum-cong f g zero e = refl
sum-cong f g (suc k) e = ap₂ (λ (x y : ℕ). x + y) (sum-cong f g k (λ i h. e i (omega arith))) (e k (omega arith))

pub sum-add : (f : ℕ → ℕ) (a b : ℕ) → sum_below f (a + b) ≡ sum_below f a + sum_below (λ i. f (a + i)) b
sum-add f a zero = ap (sum_below f) (add-zero a) ∙ sym (add-zero (sum_below f a))
sum-add f a (suc b) =
    let e : a + suc b ≡ suc (a + b) = omega arith in
    ap (sum_below f) e ∙ ap (λ (x : ℕ). x + f (a + b)) (sum-add f a b) ∙ add_assoc (sum_below f a) (sum_below (λ i. f (a + i)) b) (f (a + b))

-- a sum up to k taken by parts: none, the part of at most `size` from `from` on, and all

pub sum-none : (f : ℕ → ℕ) (k : ℕ) → 0 ≡ sum_below f (min 0 k)
sum-none f k = let e : 0 ≡ min 0 k = omega arith in ap (sum_below f) e

pub sum-part : (f : ℕ → ℕ) (from size k : ℕ) → from < k
    → sum_below f (min from k) + sum_below (λ i. f (from + i)) (min size (k - from)) ≡ sum_below f (min (from + size) k)
sum-part f from size k h =
    let e : min from k ≡ from = omega arith in
    let d : from + min size (k - from) ≡ min (from + size) k = omega arith in
    ap (λ (x : ℕ). sum_below f x + sum_below (λ i. f (from + i)) (min size (k - from))) e ∙ sym (sum-add f from (min size (k - from)))
    ∙ ap (sum_below f) d

pub sum-whole : (f : ℕ → ℕ) (from k : ℕ) → k ≤ from → sum_below f (min from k) ≡ sum_below f k
sum-whole f from k h = let e : min from k ≡ k = omega arith in ap (sum_below f) e

-- a sum of bits is at most their number
pub sum-digits : (f : ℕ → Bool) (k : ℕ) → sum_below (λ i. digit (f i)) k ≤ k
sum-digits f zero = omega arith
sum-digits f (suc k) = omega (arith, sum-digits f k, digit-le (f k))

-- of two functions, of the test for one number, and of nothing

pub sum-plus : (f g : ℕ → ℕ) (k : ℕ) → sum_below (λ i. f i + g i) k ≡ sum_below f k + sum_below g k
sum-plus f g zero = refl
sum-plus f g (suc k) = omega (arith, sum-plus f g k)

pub sum_past : (x k : ℕ) → k ≤ x → sum_below (λ i. digit (eqb i x)) k ≡ 0
sum_past x zero h = refl
sum_past x (suc k) h = rw (ne_eqb k x (λ e. omega arith)) (omega (arith, sum_past x k (omega arith)))

pub sum-once : (x k : ℕ) → x < k → sum_below (λ i. digit (eqb i x)) k ≡ 1
sum-once x zero h = absurd (omega arith)
sum-once x (suc k) h =
    split (eqb x k)
    (λ e. let d : x ≡ k = eqb→eq x k (to-T e) in omega (arith, sum_past x k (omega arith), ap digit (eq-eqb k x (sym d))))
    (λ e. let l : x < k = below_other x k h e in omega (arith, sum-once x k l, ap digit (ne_eqb k x (λ q. omega arith))))

pub sum-zero : (k : ℕ) → sum_below (λ i. 0) k ≡ 0
sum-zero zero = refl
sum-zero (suc k) = omega (arith, sum-zero k)

-- a sum with one more term
pub sum_more : (f : ℕ → ℕ) (i total x : ℕ) → total ≡ sum_below f i → x ≡ f i → total + x ≡ sum_below f (i + 1)
sum_more f i total x e d = rw (add-one i) (ap₂ ◌+◌ e d)
