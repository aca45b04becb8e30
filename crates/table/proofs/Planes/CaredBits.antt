-- The cared bits counted a word at a time, and what `cared` answers.
-- Assumes nothing.
use Rattle.std.specs.Prelude.{Ok}
use mathlib.Core.Path.{◌≡◌, sym, ap, ◌∙◌, subst}
use mathlib.Core.Bool.{true, not}
use mathlib.Core.List.{List}
use Prim.Native.Nat.{ℕ, ◌+◌, ◌*◌, ◌-◌, ◌%◌, ◌^◌, ◌≤◌, ◌<◌, min}
use native.Mathlib.Nat.{le_trans, mod-lt, mod-eq_of_lt}
use native.Mathlib.Omega.{arith}
use borrow.Author.Tests.{le-leb}
use lib.Bits.{bit_and, and_mask}
use lib.Count.{ones, ones-le}
use lib.Pow.{pow_pos}
use lib.ListN.{length, get_or}
use Rattle.lists.specs.Bits.{digit}
use Rattle.lists.specs.Sums.{sum_below}
use Rattle.lists.proofs.Bits.Digits.{one_shifted}
use Rattle.table.specs.declared.State.{State}
use Rattle.block.specs.Bits.{stream_bit, word_of}
use Rattle.table.specs.Stream.{cared_bits}
use Rattle.table.specs.State.{stage_of, is_nothing}
use Rattle.table.specs.Calls.{plane_size, cared_answer}
use Rattle.table.specs.Sizes.{most_bits}
use Rattle.block.proofs.Words.{word_of-lt, count_low}

-- the mask of the lowest k bits of a word
pub mask-some : (k : ℕ) → k < 64 → 1 ≤ 1 * 2 ^ k % 2 ^ 64
mask-some k h = subst (λ (x : ℕ). 1 ≤ x) (sym (one_shifted k h)) (pow_pos k)

-- what a word adds: of the bits from 64 × w on, so many as are left of the stream
abbrev pub Counted : List ℕ → ℕ → ℕ → ℕ → Type 0
Counted bytes w bits count = (count ≡ sum_below (λ i. digit (stream_bit bytes (64 * w + i))) (min 64 (bits - 64 * w))) × (count ≤ 64)

module _ (bytes : List ℕ) (small : (i : ℕ) → get_or bytes i 0 < 256) (w bits x : ℕ) (e : x ≡ word_of bytes (8 * w) 8) where
  counted : (k : ℕ) → k ≤ 64 → k ≡ min 64 (bits - 64 * w) → (y : ℕ) → y ≡ x % 2 ^ k → Counted bytes w bits (ones y)
  counted k h m y d = (
    ap ones d ∙ ap (λ (z : ℕ). ones (z % 2 ^ k)) e ∙ count_low bytes small w k h
        ∙ ap (sum_below (λ i. digit (stream_bit bytes (64 * w + i)))) m,
    le_trans (ones-le k y (subst (λ (z : ℕ). z < 2 ^ k) (sym d) (mod-lt x (pow_pos k)))) h,
  )

  pub count-whole : 64 ≤ bits - 64 * w → Counted bytes w bits (ones x)
  count-whole h =
      counted 64 (omega arith) (omega arith) x
      (sym (mod-eq_of_lt (subst (λ (z : ℕ). z < 2 ^ 64) (sym e) (word_of-lt bytes small (8 * w) 8))))

  pub count-part : bits - 64 * w < 64 → Counted bytes w bits (ones (bit_and x (1 * 2 ^ (bits - 64 * w) % 2 ^ 64 - 1)))
  count-part h =
      counted (bits - 64 * w) (omega arith) (omega arith) (bit_and x (1 * 2 ^ (bits - 64 * w) % 2 ^ 64 - 1))
      (ap (λ (z : ℕ). bit_and x (z - 1)) (one_shifted (bits - 64 * w) h) ∙ and_mask x (bits - 64 * w))

-- the answer by what it is refused for

module _ (s : State) (care : List ℕ) where
  pub cared-done : plane_size ≤ length care → not (is_nothing (stage_of s)) ≡ true → s.m * 2 ^ s.n ≤ most_bits → (x : ℕ)
      → x ≡ sum_below (λ i. digit (stream_bit care i)) (s.m * 2 ^ s.n % 2 ^ 64) → cared_answer s care ≡ Ok x
  unfolding cared_answer cared_bits
  cared-done h e l x d =
      let k : s.m * 2 ^ s.n < 2 ^ 64 = omega arith in
      rw (le-leb plane_size (length care) h, e)
      (ap Ok (ap (sum_below (λ i. digit (stream_bit care i))) (sym (mod-eq_of_lt k)) ∙ sym d))
