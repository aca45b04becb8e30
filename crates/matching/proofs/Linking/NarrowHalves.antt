-- The candidates that the halves of a part of at most 128 rows come to, as words.
-- Assumes nothing.
use Rattle.std.proofs.Common.{◌≡◌, sym, ap, ap₂, ◌∙◌, subst, Bool, true, false, cond, List, ℕ, suc, ◌+◌, ◌*◌, ◌^◌, ◌≤◌, ◌<◌, length, arith}
use borrow.Author.Tests.{eq-eqb, ne_eqb}
use lib.Bits.{bit_and, bit_or, bit_xor, or_lt}
use Rattle.reorder.specs.Sizes.{width}
use Rattle.matching.specs.Bytes.{agree_byte, merge_byte}
use Rattle.matching.specs.Level.{part_at}
use Rattle.matching.specs.Parts.{merge_part, half_part, offered_part}
use Rattle.matching.specs.Inner.Words.{number_of, part_of}
use Rattle.matching.proofs.Buffers.PartLengths.{offered-is}
use Rattle.matching.proofs.Wordwise.Bytes.{Small, bytes-power}
use Rattle.matching.proofs.Wordwise.HalfWords.{half_at, half-words, half-word-lt}
use Rattle.matching.proofs.Wordwise.PartWords.{agree-word, merge-words}

-- half b of the part at a, whose care starts at o
pub half_of : (b : Bool) (d a o : ℕ) (l : List ℕ) → Small l → a + (width (suc d) + width (suc d)) ≤ length l → o ≡ a + width (suc d)
    → (f c : ℕ) → f ≡ number_of (half_at b d a l) → c ≡ number_of (half_at b d o l)
    → (part_of (width d) f c ≡ half_part b d (part_at (suc d) a l)) × (c < 256 ^ width d)
half_of b d a o l h in_List at f c p q = (
  ap₂ (part_of (width d)) p (q ∙ ap (λ (n : ℕ). number_of (half_at b d n l)) at) ∙ sym (half-words b d a l h in_List),
  subst (λ (x : ℕ). x < 256 ^ width d) (sym q) (half-word-lt b d o l h (omega arith)),
)

-- the two halves of the part p
module _ (d : ℕ) (p : List ℕ) (low high low-care high-care : ℕ) (is-low : part_of (width d) low low-care ≡ half_part false d p)
    (is-high : part_of (width d) high high-care ≡ half_part true d p) (low_small : low-care < 256 ^ width d)
    (high_small : high-care < 256 ^ width d) where
  pub either_small : bit_or high-care low-care < 256 ^ width d
  either_small =
      let e = bytes-power (width d) in
      subst (λ (n : ℕ). bit_or high-care low-care < n) (sym e)
      (or_lt (8 * width d) high-care low-care (subst (λ (n : ℕ). high-care < n) e high_small) (subst (λ (n : ℕ). low-care < n) e low_small))

  offered : (b t : Bool) (x : List ℕ) → x ≡ half_part b d p → agree_byte false high high-care low low-care ≡ t
      → cond t (merge_part false (width d) (part_of (width d) high high-care) (part_of (width d) low low-care)) x ≡ offered_part b d p
  offered b t x q e =
      let m = merge_part false (width d) (part_of (width d) high high-care) (part_of (width d) low low-care) in
      ap (λ (t : Bool). cond t m x) (sym (agree-word (width d) high high-care low low-care false high_small ∙ e))
      ∙ offered-is b d p (part_of (width d) high high-care) (part_of (width d) low low-care) x is-high is-low q

  -- where they agree both candidates are the one that they become
  pub united : (b : Bool) (value : ℕ) → bit_and (bit_xor high low) (bit_and high-care low-care) ≡ 0
      → value ≡ merge_byte false high high-care low → part_of (width d) value (bit_or high-care low-care) ≡ offered_part b d p
  unfolding agree_byte
  united b value t e =
      ap (λ (y : ℕ). part_of (width d) y (bit_or high-care low-care)) e ∙ sym (merge-words (width d) high high-care low low-care false)
      ∙ offered b true (half_part b d p) (λ i. half_part b d p) (eq-eqb (bit_and (bit_xor high low) (bit_and high-care low-care)) 0 t)

  -- else they are the halves
  pub apart : (bit_and (bit_xor high low) (bit_and high-care low-care) ≡ 0 → ⊥)
      → (part_of (width d) low low-care ≡ offered_part false d p) × (part_of (width d) high high-care ≡ offered_part true d p)
  unfolding agree_byte
  apart t =
      let e = ne_eqb (bit_and (bit_xor high low) (bit_and high-care low-care)) 0 t in
      (offered false false (part_of (width d) low low-care) is-low e, offered true false (part_of (width d) high high-care) is-high e)
