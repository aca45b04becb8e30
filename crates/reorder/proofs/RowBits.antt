-- The drawn row behind a row: that of its highest one, and that of the others, added.
-- Assumes nothing.
use mathlib.Core.Path.{◌≡◌, refl, sym, ap, ◌∙◌}
use mathlib.Core.Bool.{Bool}
use mathlib.Core.List.{List}
use Prim.Native.Nat.{ℕ, zero, suc, ◌+◌, ◌*◌, ◌-◌, ◌/◌, ◌%◌, ◌^◌, ◌≤◌, ◌<◌}
use native.Mathlib.Nat.{div-eq_of_lt, zero-add, add-zero}
use native.Mathlib.Omega.{arith}
use borrow.Author.Tests.{eqb-true, ltb-true, ltb-false}
use lib.Dec.{eqb, ltb}
use lib.Pow.{pow_pos, pow_mono, high, low}
use Rattle.lists.specs.Lists.{index}
use Rattle.lists.specs.Bits.{digit, row_number, bit}
use Rattle.lists.proofs.Bits.Ones.{low_bit}
use Rattle.lists.proofs.Bools.{split}
use Rattle.lists.proofs.Bits.Digits.{digit-eqb, number_lt}
use Rattle.lists.proofs.Numbers.Compared.{differ}
use Rattle.diagram.specs.Orders.Order.{behind}

-- bit q of a number with bit l above others
module _ (l s : ℕ) (h : s < 2 ^ l) where
  top : 2 ^ l + s ≡ 1 * 2 ^ l + s
  top = omega arith

  bit-top : (2 ^ l + s) / 2 ^ l % 2 ≡ 1 + s / 2 ^ l % 2
  bit-top = rw (top, high 1 l h, div-eq_of_lt h)

  bit-above : (q : ℕ) → l < q → (2 ^ l + s) / 2 ^ q % 2 ≡ 0 + s / 2 ^ q % 2
  bit-above q k =
      let m : 2 ^ suc l ≤ 2 ^ q = pow_mono {i = suc l} k in
      let a : 2 ^ l + s < 2 ^ q = omega arith in
      let b : s < 2 ^ q = omega arith in
      rw (div-eq_of_lt a, div-eq_of_lt b)

  bit_below : (q : ℕ) → q < l → (2 ^ l + s) / 2 ^ q % 2 ≡ 0 + s / 2 ^ q % 2
  bit_below q k =
      sym (low_bit (2 ^ l + s) l q k) ∙ ap (λ x. x / 2 ^ q % 2) (ap (λ x. x % 2 ^ l) top ∙ low 1 l h) ∙ sym (zero-add (s / 2 ^ q % 2))

  bit-over : (q : ℕ) → (2 ^ l + s) / 2 ^ q % 2 ≡ digit (eqb l q) + s / 2 ^ q % 2
  bit-over q =
      split (eqb l q) (λ e. rw (e, ← eqb-true l q e) bit-top)
      (λ e. rw e (split (ltb q l) (λ t. bit_below q (ltb-true q l t))
      (λ t. bit-above q (omega (arith, ltb-false q l t, differ l q e)))))

-- the bits of rows: of zero, of a single one, and of one above others
module _ (n p : ℕ) where
  digit-bit : (x : ℕ) → digit (bit n p x) ≡ x / 2 ^ (n - suc p) % 2
  unfolding bit
  digit-bit x = digit-eqb (x / 2 ^ (n - suc p) % 2) (omega arith)

  digit-zero : digit (bit n p 0) ≡ 0
  digit-zero = digit-bit 0 ∙ ap (λ x. x % 2) (div-eq_of_lt (pow_pos (n - suc p)))

  digit-over : (l s : ℕ) → s < 2 ^ l → digit (bit n p (2 ^ l + s)) ≡ digit (eqb l (n - suc p)) + digit (bit n p s)
  digit-over l s h = digit-bit (2 ^ l + s) ∙ bit-over l s h (n - suc p) ∙ ap (λ x. digit (eqb l (n - suc p)) + x) (sym (digit-bit s))

  pub digit-one : (l : ℕ) → digit (bit n p (2 ^ l)) ≡ digit (eqb l (n - suc p))
  digit-one l =
      ap (λ x. digit (bit n p x)) (sym (add-zero (2 ^ l))) ∙ digit-over l 0 (pow_pos l) ∙ omega (arith, digit-zero)

number-zero : (n : ℕ) (a : ℕ → Bool) → ((v : ℕ) → digit (a v) ≡ 0) → row_number n a ≡ 0
number-zero zero a e = refl
number-zero (suc n) a e = omega (arith, number-zero n a e, e n)

number-add : (n : ℕ) (a b c : ℕ → Bool) → ((v : ℕ) → digit (c v) ≡ digit (a v) + digit (b v))
    → row_number n c ≡ row_number n a + row_number n b
number-add zero a b c e = refl
number-add (suc n) a b c e = omega (arith, number-add n a b c e, e n)

module _ (n : ℕ) (order : List ℕ) where
  pub behind-zero : behind n order 0 ≡ 0
  unfolding behind
  behind-zero = number-zero n (λ v. bit n (index eqb v order) 0) (λ v. digit-zero n (index eqb v order))

  pub behind-over : (l s : ℕ) → s < 2 ^ l → behind n order (2 ^ l + s) ≡ behind n order (2 ^ l) + behind n order s
  unfolding behind
  behind-over l s h =
      number-add n (λ v. bit n (index eqb v order) (2 ^ l)) (λ v. bit n (index eqb v order) s) (λ v. bit n (index eqb v order) (2 ^ l + s))
      (λ v. let p = index eqb v order in
      digit-over n p l s h ∙ ap (λ x. x + digit (bit n p s)) (sym (digit-one n p l)))

  pub behind-lt : (s : ℕ) → behind n order s < 2 ^ n
  unfolding behind
  behind-lt s = number_lt n (λ v. bit n (index eqb v order) s)
