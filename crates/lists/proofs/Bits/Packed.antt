-- Bits packed into a number one after the other, the first the lowest.
-- Assumes nothing.
use mathlib.Core.Path.{◌≡◌, refl, sym, ap, ap₂, ◌∙◌}
use mathlib.Core.Bool.{Bool, true, false}
use Prim.Native.Nat.{ℕ, zero, suc, ◌+◌, ◌*◌, ◌/◌, ◌%◌, ◌^◌, ◌<◌}
use native.Mathlib.Nat.{add_comm}
use native.Mathlib.Numerals.{add-one}
use native.Mathlib.Omega.{arith}
use lib.Bits.{bit_or, or_shifted_r}
use lib.Dec.{eqb, eqb→eq}
use lib.Pow.{shl_exact, low, high}
use Rattle.lists.specs.Bits.{digit, packed}
use Rattle.lists.proofs.Bools.{split, to-T}
use Rattle.lists.proofs.Bits.Digits.{digit-le, eqb-digit}
use Rattle.lists.proofs.Numbers.Compared.{below_other}
use Rattle.lists.proofs.Bits.Ones.{low_bit}

pub packed_lt : (k : ℕ) (f : ℕ → Bool) → packed k f < 2 ^ k
packed_lt zero f = omega arith
packed_lt (suc k) f = step (f k) (packed_lt k f)
  where
    step : (b : Bool) → packed k f < 2 ^ k → packed k f + digit b * 2 ^ k < 2 ^ suc k
    step true h = omega arith
    step false h = omega arith

-- bits that are the same one by one
pub packed-cong : (k : ℕ) (f g : ℕ → Bool) → ((b : ℕ) → b < k → f b ≡ g b) → packed k f ≡ packed k g
packed-cong zero f g e = refl
packed-cong (suc k) f g e = ap₂ (λ x b. x + digit b * 2 ^ k) (packed-cong k f g (λ b h. e b (omega arith))) (e k (omega arith))

-- one bit more
module _ (k : ℕ) (f : ℕ → Bool) (byte : ℕ) (e : byte ≡ packed k f) where
  pub bit-more : (d : ℕ) → k < 8 → d ≡ digit (f k) → bit_or byte (d * 2 ^ k % 256) ≡ packed (k + 1) f
  bit-more d h q =
      let s : d * 2 ^ k % 256 ≡ d * 2 ^ k = shl_exact 1 k 8 (omega (arith, digit-le (f k))) (omega arith) in
      ap₂ bit_or e s ∙ or_shifted_r d k (packed k f) (packed_lt k f) ∙ add_comm (d * 2 ^ k) (packed k f)
      ∙ ap (λ x. packed k f + x * 2 ^ k) q ∙ ap (λ j. packed j f) (sym (add-one k))

  pub bit-set : k < 8 → f k ≡ true → bit_or byte (1 * 2 ^ k % 256) ≡ packed (k + 1) f
  bit-set h t = bit-more 1 h (ap digit (sym t))

  pub bit-clear : f k ≡ false → byte ≡ packed (k + 1) f
  bit-clear t =
      let q : packed (k + 1) f ≡ packed k f + 0 * 2 ^ k = ap (λ j. packed j f) (add-one k) ∙ ap (λ b. packed k f + digit b * 2 ^ k) t in
      omega arith

-- each bit can be read off again
pub packed-bit : (k : ℕ) (f : ℕ → Bool) (i : ℕ) → i < k → eqb (packed k f / 2 ^ i % 2) 1 ≡ f i
packed-bit zero f i h = absurd (omega arith)
packed-bit (suc k) f i h =
    let e : packed k f + digit (f k) * 2 ^ k ≡ digit (f k) * 2 ^ k + packed k f = add_comm (packed k f) (digit (f k) * 2 ^ k) in
    split (eqb i k)
    (λ q. rw (eqb→eq i k (to-T q), e, high (digit (f k)) k (packed_lt k f))
    (let d : digit (f k) % 2 ≡ digit (f k) = omega (arith, digit-le (f k)) in ap (λ (y : ℕ). eqb y 1) d ∙ eqb-digit (f k)))
    (λ q. let l : i < k = below_other i k h q in
    ap (λ (y : ℕ). eqb y 1)
    (sym (low_bit (packed (suc k) f) k i l)
    ∙ ap (λ (y : ℕ). y / 2 ^ i % 2) (ap (λ (y : ℕ). y % 2 ^ k) e ∙ low (digit (f k)) k (packed_lt k f)))
    ∙ packed-bit k f i l)
