-- The number that bits make, and the bits of a number.
-- Assumes nothing.
use mathlib.Core.Path.{◌≡◌, refl, sym, ap, ap₂, ◌∙◌}
use mathlib.Core.Bool.{Bool, true, false}
use Prim.Native.Nat.{ℕ, zero, suc, ◌+◌, ◌*◌, ◌-◌, ◌/◌, ◌%◌, ◌^◌, ◌≤◌, ◌<◌}
use native.Mathlib.Nat.{not-suc-le-zero, div-one, one-mul, mod-eq_of_lt}
use native.Mathlib.Omega.{arith}
use lib.Dec.{eqb, eqb→eq}
use lib.Pow.{pow-lt, shr-shr}
use Rattle.lists.specs.Bits.{digit, row_number, bit}
use Rattle.lists.proofs.Bools.{split, to-T}
use Rattle.lists.proofs.Numbers.Compared.{below_other}

pub digit-le : (b : Bool) → digit b ≤ 1
digit-le true = omega arith
digit-le false = omega arith

pub digit-part-le : (b : Bool) (n : ℕ) → digit b * n ≤ n
digit-part-le true n = omega arith
digit-part-le false n = omega arith

-- 1 shifted up in a word of 64 bits
pub one_shifted : (k : ℕ) → k < 64 → 1 * 2 ^ k % 2 ^ 64 ≡ 2 ^ k
one_shifted k h = ap (λ (x : ℕ). x % 2 ^ 64) (one-mul (2 ^ k)) ∙ mod-eq_of_lt (pow-lt h)

pub number_lt : (n : ℕ) (a : ℕ → Bool) → row_number n a < 2 ^ n
number_lt zero a = omega arith
number_lt (suc n) a = omega (arith, number_lt n a, digit-le (a n))

pub number-cong : (n : ℕ) (a b : ℕ → Bool) → ((v : ℕ) → v < n → a v ≡ b v) → row_number n a ≡ row_number n b
number-cong zero a b f = refl
number-cong (suc n) a b f =
    ap₂ (λ (x : ℕ) (c : Bool). 2 * x + digit c) (number-cong n a b (λ v h. f v (omega arith))) (f n (omega arith))

-- the last bit of a number of n + 1 bits is the number's remainder by 2, and the bits before it are those of its half

pub bit-last : (n x : ℕ) → bit (suc n) n x ≡ eqb (x % 2) 1
unfolding bit
bit-last n x = let e : suc n - suc n ≡ 0 = omega arith in rw (e, div-one x)

pub bit-half : (n v x : ℕ) → v < n → bit (suc n) v x ≡ bit n v (x / 2)
unfolding bit
bit-half n v x h =
    let e : suc n - suc v ≡ 1 + (n - suc v) = omega arith in
    ap (λ (k : ℕ). eqb (x / 2 ^ k % 2) 1) e ∙ ap (λ (y : ℕ). eqb (y % 2) 1) (sym (shr-shr x 1 (n - suc v)))

half-digit : (m : ℕ) (b : Bool) → (2 * m + digit b) / 2 ≡ m
half-digit m true = omega arith
half-digit m false = omega arith

rest-digit : (m : ℕ) (b : Bool) → (2 * m + digit b) % 2 ≡ digit b
rest-digit m true = omega arith
rest-digit m false = omega arith

pub eqb-digit : (b : Bool) → eqb (digit b) 1 ≡ b
eqb-digit true = refl
eqb-digit false = refl

pub digit-eqb : (k : ℕ) → k < 2 → digit (eqb k 1) ≡ k
digit-eqb zero h = refl
digit-eqb (suc zero) h = refl
digit-eqb (suc (suc k)) h = absurd (omega arith)

pub bit-number : (n : ℕ) (a : ℕ → Bool) (v : ℕ) → v < n → bit n v (row_number n a) ≡ a v
bit-number zero a v h = absurd (not-suc-le-zero h)
bit-number (suc n) a v h =
    split (eqb v n)
    (λ e. rw (eqb→eq v n (to-T e))
    (bit-last n (row_number (suc n) a) ∙ ap (λ (k : ℕ). eqb k 1) (rest-digit (row_number n a) (a n)) ∙ eqb-digit (a n)))
    (λ e. let k : v < n = below_other v n h e in
    bit-half n v (row_number (suc n) a) k ∙ ap (bit n v) (half-digit (row_number n a) (a n)) ∙ bit-number n a v k)

pub number_bit : (n x : ℕ) → x < 2 ^ n → row_number n (λ v. bit n v x) ≡ x
number_bit zero x h = omega arith
number_bit (suc n) x h =
    let e : row_number n (λ v. bit (suc n) v x) ≡ x / 2 =
    number-cong n (λ v. bit (suc n) v x) (λ v. bit n v (x / 2)) (λ v k. bit-half n v x k) ∙ number_bit n (x / 2) (omega arith) in
    let l : digit (bit (suc n) n x) ≡ x % 2 = ap digit (bit-last n x) ∙ digit-eqb (x % 2) (omega arith) in
    rw (e, l) (omega arith)
