-- The unused bits of a block's content: tested byte by byte, and of one byte by a shift.
-- Assumes nothing.
use mathlib.Core.Path.{◌≡◌, refl, sym, ap, ap₂, ◌∙◌, subst}
use mathlib.Core.Bool.{Bool, true, false, not, ◌&&◌}
use mathlib.Core.List.{List}
use mathlib.Core.Logic.{◌≢◌}
use Prim.Native.Nat.{ℕ, zero, suc, ◌+◌, ◌*◌, ◌-◌, ◌/◌, ◌%◌, ◌^◌, ◌≤◌, ◌<◌}
use native.Mathlib.Nat.{div-eq_of_lt, zero-add, lt_of_lt_of_le, mod-lt}
use native.Mathlib.Omega.{arith}
use borrow.Author.Tests.{eqb-false, eq-eqb, le-leb, leb-true}
use lib.Dec.{T, eqb, leb, eqb→eq, leb→le, le→leb}
use lib.Pow.{pow_mono, pow_pos, shr_lt}
use lib.Pow as Pow
use Rattle.lists.specs.Lists.{all, up_to}
use Rattle.lists.proofs.Bools.{to-T, absurd-T, both_ways}
use Rattle.lists.proofs.Numbers.Compared.{all-up_to-at, all-up_to-of}
use Rattle.lists.proofs.Numbers.Below.{all_same}
use Rattle.block.specs.Block.{content_at, content_size, content_bits, byte, content_bit, unused_bits_zero}
use Rattle.block.specs.Inner.UnusedByte.{unused_byte_zero}

-- a number below 2 ^ c is one that a shift by c takes to 0

pub low-only : (x c : ℕ) → x / 2 ^ c ≡ 0 → x < 2 ^ c
low-only x c e =
    let s : x / 2 ^ c * 2 ^ c + x % 2 ^ c ≡ x = Pow.split x c in
    let t : 0 * 2 ^ c + x % 2 ^ c ≡ x = rw e at s in
    omega (arith, mod-lt x (pow_pos c))

-- a number of d + c bits whose upper d bits are 0: the highest is 0, so it is one of fewer bits
upper-zero : (d c x : ℕ) → x < 2 ^ (d + c) → ((b : ℕ) → c ≤ b → b < d + c → eqb (x / 2 ^ b % 2) 1 ≡ false) → x / 2 ^ c ≡ 0
upper-zero zero c x h f = div-eq_of_lt (rw (zero-add c) at h)
upper-zero (suc d) c x h f =
    let e : suc d + c ≡ 1 + (d + c) = omega arith in
    let l : x / 2 ^ (d + c) < 2 = shr_lt 1 (d + c) (subst (λ (n : ℕ). x < 2 ^ n) e h) in
    let o : x / 2 ^ (d + c) % 2 ≢ 1 = eqb-false (x / 2 ^ (d + c) % 2) 1 (f (d + c) (omega arith) (omega arith)) in
    upper-zero d c x (low-only x (d + c) (omega arith)) (λ b g k. f b g (omega arith))

not-both : (a b : Bool) → (b ≡ true → a ≡ false) → T (not (a && b))
not-both true true f = absurd-T {b = true} tt (f refl)
not-both true false f = tt
not-both false b f = tt

first-false : (a b : Bool) → T (not (a && b)) → b ≡ true → a ≡ false
first-false true true t e = absurd t
first-false true false t e = sym e
first-false false b t e = refl

-- of a number of k bits, the bits from bit c on are 0 if and only if a shift by c leaves 0
pub upper-bits : (k c x : ℕ) → x < 2 ^ k → all (λ b. not (eqb (x / 2 ^ b % 2) 1 && leb c b)) (up_to k) ≡ eqb (x / 2 ^ c) 0
upper-bits k c x h =
    both_ways (all (λ b. not (eqb (x / 2 ^ b % 2) 1 && leb c b)) (up_to k)) (eqb (x / 2 ^ c) 0)
    (λ t. to-T (eq-eqb (x / 2 ^ c) 0
    (upper-zero (k - c) c x (lt_of_lt_of_le h (pow_mono (omega arith)))
    (λ b g l. first-false (eqb (x / 2 ^ b % 2) 1) (leb c b)
    (all-up_to-at (λ i. not (eqb (x / 2 ^ i % 2) 1 && leb c i)) k t b (omega arith))
    (le-leb c b g)))))
    (λ t. let l : x < 2 ^ c = low-only x c (eqb→eq (x / 2 ^ c) 0 t) in
    all-up_to-of (λ b. not (eqb (x / 2 ^ b % 2) 1 && leb c b)) k
    (λ b g. not-both (eqb (x / 2 ^ b % 2) 1) (leb c b)
    (λ e. ap (λ (y : ℕ). eqb (y % 2) 1) (div-eq_of_lt (lt_of_lt_of_le l (pow_mono (leb-true c b e)))))))

-- a test over 8 × n numbers, eight at a time
pub by-eights : (p : ℕ → Bool) (n : ℕ) → all p (up_to (8 * n)) ≡ all (λ j. all (λ b. p (8 * j + b)) (up_to 8)) (up_to n)
by-eights p n =
    both_ways (all p (up_to (8 * n))) (all (λ j. all (λ b. p (8 * j + b)) (up_to 8)) (up_to n))
    (λ t. all-up_to-of (λ j. all (λ b. p (8 * j + b)) (up_to 8)) n
    (λ j h. all-up_to-of (λ b. p (8 * j + b)) 8 (λ b k. all-up_to-at p (8 * n) t (8 * j + b) (omega arith))))
    (λ t. all-up_to-of p (8 * n)
    (λ i h. subst (λ (m : ℕ). T (p m)) (omega arith)
    (all-up_to-at (λ b. p (8 * (i / 8) + b)) 8
    (all-up_to-at (λ j. all (λ b. p (8 * j + b)) (up_to 8)) n t (i / 8) (omega arith)) (i % 8) (omega arith))))

pub by_bytes : (file : List ℕ) (k used : ℕ) → unused_bits_zero file k used ≡ all (unused_byte_zero file k used) (up_to content_size)
unfolding unused_bits_zero unused_byte_zero
by_bytes file k used = by-eights (λ i. not (content_bit file k i && leb used i)) content_size

-- bit b of byte j of a block's content
pub content-bit : (file : List ℕ) (k j x b : ℕ) → b < 8 → x ≡ byte file k (content_at + j)
    → content_bit file k (8 * j + b) ≡ eqb (x / 2 ^ b % 2) 1
unfolding content_bit
content-bit file k j x b h e =
    let p : (8 * j + b) / 8 ≡ j = omega arith in
    let q : (8 * j + b) % 8 ≡ b = omega arith in
    rw (p, q, e)

-- it is an unused one by its number in the byte
past-last : (used j b : ℕ) → leb used (8 * j + b) ≡ leb (used - 8 * j) b
past-last used j b =
    both_ways (leb used (8 * j + b)) (leb (used - 8 * j) b)
    (λ t. let l = leb→le used (8 * j + b) t in le→leb (used - 8 * j) b (omega arith))
    (λ t. let l = leb→le (used - 8 * j) b t in le→leb used (8 * j + b) (omega arith))

module _ (file : List ℕ) (k used j x : ℕ) (h : x < 256) (e : x ≡ byte file k (content_at + j)) where
  -- the eight tests of byte j by one shift
  pub byte_shifted : unused_byte_zero file k used j ≡ eqb (x / 2 ^ (used - 8 * j)) 0
  unfolding unused_byte_zero
  byte_shifted =
      all_same (λ b. not (content_bit file k (8 * j + b) && leb used (8 * j + b)))
      (λ b. not (eqb (x / 2 ^ b % 2) 1 && leb (used - 8 * j) b)) 8
      (λ b l. ap₂ (λ (u v : Bool). not (u && v)) (content-bit file k j x b l e) (past-last used j b))
      ∙ upper-bits 8 (used - 8 * j) x h

  -- a byte whose bits are all used
  pub byte_inside : 8 * j + 8 ≤ used → true ≡ unused_byte_zero file k used j
  byte_inside l =
      sym
      (byte_shifted
      ∙ eq-eqb (x / 2 ^ (used - 8 * j)) 0 (div-eq_of_lt (lt_of_lt_of_le h (pow_mono {i = 8} (omega arith)))))

-- each bit from bit `used` on is 0
pub unused-bit : (file : List ℕ) (k used : ℕ) → T (unused_bits_zero file k used)
    → (i : ℕ) → i < content_bits → used ≤ i → content_bit file k i ≡ false
unfolding unused_bits_zero
unused-bit file k used t i h l =
    first-false (content_bit file k i) (leb used i)
    (all-up_to-at (λ j. not (content_bit file k j && leb used j)) content_bits t i h)
    (le-leb used i l)
