-- Bits of a stream, and rows of a number, by shifts and masks.
-- Assumes nothing.
use mathlib.Core.Path.{◌≡◌, sym, ap, ◌∙◌}
use mathlib.Core.List.{List}
use Prim.Native.Nat.{ℕ, ◌/◌, ◌%◌, ◌^◌}
use native.Mathlib.Omega.{arith}
use lib.Bits.{bit_and, and_mask}
use lib.ListN.{get_or}
use Rattle.lists.specs.Bits.{digit}
use Rattle.lists.proofs.Bits.Digits.{digit-eqb}
use Rattle.block.specs.Bits.{stream_bit}

-- bit i is the lowest of byte i / 8 shifted down by i mod 8
pub bit_shifted : (bytes : List ℕ) (i x : ℕ) → x ≡ get_or bytes (i / 8) 0 → bit_and (x / 2 ^ bit_and i 7) 1 ≡ digit (stream_bit bytes i)
unfolding stream_bit
bit_shifted bytes i x e =
    ap (λ (k : ℕ). bit_and (x / 2 ^ k) 1) (and_mask i 3) ∙ and_mask (x / 2 ^ (i % 8)) 1 ∙ ap (λ (y : ℕ). y / 2 ^ (i % 8) % 2) e
    ∙ sym (digit-eqb (get_or bytes (i / 8) 0 / 2 ^ (i % 8) % 2) (omega arith))
