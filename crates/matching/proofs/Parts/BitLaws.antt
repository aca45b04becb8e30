-- What holds of bits holds of numbers: an equation of two terms of bit operations, tried at every value of their bits.
-- Assumes nothing.
use mathlib.Core.Path.{◌≡◌, refl, sym, ap, ap₂, ◌∙◌}
use mathlib.Core.Bool.{Bool, cond}
use Prim.Native.Nat.{ℕ, zero, suc, ◌+◌, ◌*◌, ◌^◌, ◌/◌, ◌%◌, ◌≤◌, ◌<◌}
use native.Mathlib.Nat.{le_refl}
use native.Mathlib.Omega.{arith}
use lib.Bits.{bit_and, bit_or, bit_xor, and_block, or_block, xor_block, and_lt, or_lt, xor_lt}
use lib.Dec.{T, eqb, eqb→eq}
use Rattle.lists.specs.Bits.{digit}
use Rattle.lists.proofs.Bits.Digits.{digit-eqb}
use Rattle.matching.proofs.Parts.Blockwise.{cond-block, cond-lt, every, every-at}

-- a term over four numbers: F and C a candidate's values and care, G and D an entry's
pub data Term : Type 0 where
  F : Term
  C : Term
  G : Term
  D : Term
  and : Term → Term → Term
  or : Term → Term → Term
  xor : Term → Term → Term
  when : Bool → Term → Term

abbrev pub value : ℕ → ℕ → ℕ → ℕ → Term → ℕ
value f c g d F = f
value f c g d C = c
value f c g d G = g
value f c g d D = d
value f c g d (and s t) = bit_and (value f c g d s) (value f c g d t)
value f c g d (or s t) = bit_or (value f c g d s) (value f c g d t)
value f c g d (xor s t) = bit_xor (value f c g d s) (value f c g d t)
value f c g d (when i t) = cond i (value f c g d t) 0

-- of the k low bits, and of them and the others apart
module _ (k f c g d : ℕ) (hf : f < 2 ^ k) (hc : c < 2 ^ k) (hg : g < 2 ^ k) (hd : d < 2 ^ k) where
  value-lt : (t : Term) → value f c g d t < 2 ^ k
  value-lt F = hf
  value-lt C = hc
  value-lt G = hg
  value-lt D = hd
  value-lt (and s t) = and_lt k _ _ (value-lt s) (value-lt t)
  value-lt (or s t) = or_lt k _ _ (value-lt s) (value-lt t)
  value-lt (xor s t) = xor_lt k _ _ (value-lt s) (value-lt t)
  value-lt (when i t) = cond-lt i k _ (value-lt t)

  value-block : (f' c' g' d' : ℕ) (t : Term)
      → value (f' * 2 ^ k + f) (c' * 2 ^ k + c) (g' * 2 ^ k + g) (d' * 2 ^ k + d) t ≡ value f' c' g' d' t * 2 ^ k + value f c g d t
  value-block f' c' g' d' F = refl
  value-block f' c' g' d' C = refl
  value-block f' c' g' d' G = refl
  value-block f' c' g' d' D = refl
  value-block f' c' g' d' (and s t) =
      ap₂ bit_and (value-block f' c' g' d' s) (value-block f' c' g' d' t) ∙ and_block k _ _ _ _ (value-lt s) (value-lt t)
  value-block f' c' g' d' (or s t) =
      ap₂ bit_or (value-block f' c' g' d' s) (value-block f' c' g' d' t) ∙ or_block k _ _ _ _ (value-lt s) (value-lt t)
  value-block f' c' g' d' (xor s t) =
      ap₂ bit_xor (value-block f' c' g' d' s) (value-block f' c' g' d' t) ∙ xor_block k _ _ _ _ (value-lt s) (value-lt t)
  value-block f' c' g' d' (when i t) =
      ap (λ (x : ℕ). cond i x 0) (value-block f' c' g' d' t) ∙ cond-block i k (value f' c' g' d' t) (value f c g d t)

-- the lowest bits, and the others
cut : (f c g d : ℕ) (t : Term)
    → value f c g d t ≡ value (f / 2) (c / 2) (g / 2) (d / 2) t * 2 + value (f % 2) (c % 2) (g % 2) (d % 2) t
cut f c g d t =
    let e : (n : ℕ) → n ≡ n / 2 * 2 + n % 2 = λ n. omega arith in
    (λ j. value (e f j) (e c j) (e g j) (e d j) t)
    ∙ value-block 1 (f % 2) (c % 2) (g % 2) (d % 2) (omega arith) (omega arith) (omega arith) (omega arith)
    (f / 2) (c / 2) (g / 2) (d / 2) t

-- both terms, at bits that are numbers
abbrev same : (Bool → Term) → (Bool → Term) → Bool → Bool → Bool → Bool → Bool → Bool
same s t i f c g d = eqb (value (digit f) (digit c) (digit g) (digit d) (s i)) (value (digit f) (digit c) (digit g) (digit d) (t i))

module _ (s t : Bool → Term) (tried : T (every (same s t))) (i : Bool) where
  on-bits : (f c g d : ℕ) → f < 2 → c < 2 → g < 2 → d < 2 → value f c g d (s i) ≡ value f c g d (t i)
  on-bits f c g d hf hc hg hd =
      rw (← digit-eqb f hf, ← digit-eqb c hc, ← digit-eqb g hg, ← digit-eqb d hd)
      (eqb→eq _ _ (every-at (same s t) tried i (eqb f 1) (eqb c 1) (eqb g 1) (eqb d 1)))

  -- bit after bit, where the numbers' sum is at most n
  below : (n f c g d : ℕ) → f + c + g + d ≤ n → value f c g d (s i) ≡ value f c g d (t i)
  below zero f c g d h = on-bits f c g d (omega arith) (omega arith) (omega arith) (omega arith)
  below (suc n) f c g d h =
      cut f c g d (s i)
      ∙ ap₂ (λ (x y : ℕ). x * 2 + y) (below n (f / 2) (c / 2) (g / 2) (d / 2) (omega arith))
      (on-bits (f % 2) (c % 2) (g % 2) (d % 2) (omega arith) (omega arith) (omega arith) (omega arith))
      ∙ sym (cut f c g d (t i))

  -- both terms, at any numbers
  pub on-numbers : (f c g d : ℕ) → value f c g d (s i) ≡ value f c g d (t i)
  on-numbers f c g d = below (f + c + g + d) f c g d (le_refl (f + c + g + d))
