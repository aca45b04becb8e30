-- Bits gathered into a number, each shifted to its place and added: one bit more, and that the sum fits a word.
-- Assumes nothing.
use mir.Val.{bool_byte}
use mathlib.Core.Path.{◌≡◌, refl}
use mathlib.Core.Bool.{Bool, true, false}
use Prim.Native.Nat.{ℕ, suc, ◌+◌, ◌*◌, ◌%◌, ◌^◌, ◌<◌}
use native.Mathlib.Numerals.{add-one}
use native.Mathlib.Omega.{arith}
use lib.Pow.{pow_mono, shl_exact}
use Rattle.lists.specs.Bits.{digit, packed}
use Rattle.lists.proofs.Bits.Digits.{digit-le}
use Rattle.lists.proofs.Bits.Packed.{packed_lt}

-- a bool as a number
pub digit-byte : (b : Bool) → bool_byte b ≡ digit b
digit-byte true = refl
digit-byte false = refl

module _ (f : ℕ → Bool) (j total : ℕ) (so_far : total ≡ packed j f) where
  module _ (small : j < 64) (d : ℕ) (bit : d ≡ digit (f j)) where
    pub bit_added : total + d * 2 ^ j % 2 ^ 64 ≡ packed (j + 1) f
    bit_added =
        rw (add-one, ← bit)
        (omega (arith, shl_exact {a = d} 1 j 64 (omega (arith, digit-le (f j))) (omega arith)))

    pub sum_fits : total + d * 2 ^ j % 2 ^ 64 < 2 ^ 64
    sum_fits = omega (arith, bit_added, packed_lt (j + 1) f, pow_mono {i = j + 1} {j = 64} (omega arith))

-- one bit more fits a word, whichever bit it is
pub bit-fits : (total j d : ℕ) (b : Bool) → total < 2 ^ j → j < 64 → d ≡ digit b → total + d * 2 ^ j % 2 ^ 64 < 2 ^ 64
bit-fits total j d true t h e =
    rw e (omega (arith, shl_exact {a = 1} 1 j 64 (omega arith) (omega arith), pow_mono {i = suc j} {j = 64} (omega arith)))
bit-fits total j d false t h e = rw e (omega (arith, pow_mono {i = j} {j = 64} (omega arith)))
