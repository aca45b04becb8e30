-- Words of eight bytes: the bits of a word are those of the stream, and a count of ones is their sum.
-- Assumes nothing.
use mathlib.Core.Path.{◌≡◌, sym, ap, ap₂, ◌∙◌, subst}
use mathlib.Core.List.{List}
use Prim.Native.Nat.{ℕ, zero, suc, ◌+◌, ◌*◌, ◌/◌, ◌%◌, ◌^◌, ◌≤◌, ◌<◌}
use native.Mathlib.Nat.{add_comm, mul-le-mul_right}
use native.Mathlib.Numerals.{add-one}
use native.Mathlib.Omega.{arith}
use borrow.Author.Tests.{ltb-true, ltb-false}
use lib.Dec.{ltb}
use lib.Count.{ones}
use lib.Pow.{pow-add, low, high, shr-shr}
use lib.ListN.{get_or}
use Rattle.lists.specs.Bits.{digit}
use Rattle.lists.specs.Sums.{sum_below}
use Rattle.lists.proofs.Bools.{split}
use Rattle.lists.proofs.Bits.Digits.{digit-eqb}
use Rattle.lists.proofs.Bits.Ones.{low_bit, ones-sum}
use Rattle.lists.proofs.Numbers.Sums.{sum-cong}
use Rattle.block.specs.Bits.{stream_bit, word_of}

-- one byte more on top of k

word_lt : (word b k : ℕ) → word < 2 ^ (8 * k) → b < 256 → word + b * 2 ^ (8 * k) < 2 ^ (8 * (k + 1))
word_lt word b k h l =
    let e : 8 * (k + 1) ≡ 8 + 8 * k = omega arith in
    let b255 : b ≤ 255 = omega arith in
    let m : b * 2 ^ (8 * k) ≤ 255 * 2 ^ (8 * k) = mul-le-mul_right (2 ^ (8 * k)) b255 in
    let p : 2 ^ (8 + 8 * k) ≡ 256 * 2 ^ (8 * k) = pow-add 2 8 (8 * k) in
    subst (λ (j : ℕ). word + b * 2 ^ (8 * k) < 2 ^ j) (sym e) (omega arith)

module _ (bytes : List ℕ) (small : (i : ℕ) → get_or bytes i 0 < 256) where
  pub word_of-lt : (at k : ℕ) → word_of bytes at k < 2 ^ (8 * k)
  word_of-lt at zero = omega arith
  word_of-lt at (suc k) =
      subst (λ (j : ℕ). word_of bytes at (suc k) < 2 ^ (8 * j)) (add-one k)
      (word_lt (word_of bytes at k) (get_or bytes (at + k) 0) k (word_of-lt at k) (small (at + k)))

  -- the byte on top leaves the bits below it, and has its own above
  word-bit : (at k i : ℕ) → i < 8 * k → word_of bytes at k / 2 ^ i % 2 ≡ get_or bytes (at + i / 8) 0 / 2 ^ (i % 8) % 2
  word-bit at zero i h = absurd (omega arith)
  word-bit at (suc k) i h =
      let b = get_or bytes (at + k) 0 in
      let word = word_of bytes at k in
      let e : word + b * 2 ^ (8 * k) ≡ b * 2 ^ (8 * k) + word = add_comm word (b * 2 ^ (8 * k)) in
      split (ltb i (8 * k))
      (λ q. let l = ltb-true i (8 * k) q in
      sym (low_bit (word_of bytes at (suc k)) (8 * k) i l)
      ∙ ap (λ (y : ℕ). y / 2 ^ i % 2) (ap (λ (y : ℕ). y % 2 ^ (8 * k)) e ∙ low b (8 * k) (word_of-lt at k)) ∙ word-bit at k i l)
      (λ q. let l = ltb-false i (8 * k) q in
      let d : i ≡ 8 * k + i % 8 = omega arith in
      let f : k ≡ i / 8 = omega arith in
      ap (λ (j : ℕ). word_of bytes at (suc k) / 2 ^ j % 2) d
      ∙ ap (λ (y : ℕ). y % 2) (sym (shr-shr (word_of bytes at (suc k)) (8 * k) (i % 8)))
      ∙ ap (λ (y : ℕ). y / 2 ^ (i % 8) % 2) (ap (λ (y : ℕ). y / 2 ^ (8 * k)) e ∙ high b (8 * k) (word_of-lt at k))
      ∙ ap (λ (j : ℕ). get_or bytes (at + j) 0 / 2 ^ (i % 8) % 2) f)

  word-stream : (w i : ℕ) → i < 64 → word_of bytes (8 * w) 8 / 2 ^ i % 2 ≡ digit (stream_bit bytes (64 * w + i))
  unfolding stream_bit
  word-stream w i h =
      let d : 8 * w + i / 8 ≡ (64 * w + i) / 8 = omega arith in
      let e : i % 8 ≡ (64 * w + i) % 8 = omega arith in
      word-bit (8 * w) 8 i h ∙ ap₂ (λ (j k : ℕ). get_or bytes j 0 / 2 ^ k % 2) d e
      ∙ sym (digit-eqb (get_or bytes ((64 * w + i) / 8) 0 / 2 ^ ((64 * w + i) % 8) % 2) (omega arith))

  -- the lowest k bits of the word at byte 8 × w
  pub count_low : (w k : ℕ) → k ≤ 64 → ones (word_of bytes (8 * w) 8 % 2 ^ k) ≡ sum_below (λ i. digit (stream_bit bytes (64 * w + i))) k
  count_low w k h =
      ones-sum (word_of bytes (8 * w) 8) k
      ∙ sum-cong (λ i. word_of bytes (8 * w) 8 / 2 ^ i % 2) (λ i. digit (stream_bit bytes (64 * w + i))) k
      (λ i l. word-stream w i (omega arith))
