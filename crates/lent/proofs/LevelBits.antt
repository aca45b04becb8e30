-- A row's bits packed by level into a number: each is read off again by a shift and a mask.
-- Assumes nothing.
use mathlib.Core.Path.{◌≡◌, sym, ◌∙◌}
use mathlib.Core.Bool.{Bool}
use Prim.Native.Nat.{ℕ, ◌/◌, ◌%◌, ◌^◌, ◌<◌}
use native.Mathlib.Omega.{arith}
use lib.Bits.{bit_and, and_mask}
use Rattle.lists.specs.Bits.{digit, packed}
use Rattle.lists.proofs.Bits.Digits.{digit-eqb}
use Rattle.lists.proofs.Bits.Packed.{packed-bit}
use Rattle.lent.specs.Inner.Cells.{level_bit}

pub level-masked : (bits p : ℕ) → bit_and (bits / 2 ^ p) 1 ≡ digit (level_bit bits p)
unfolding level_bit
level-masked bits p = and_mask (bits / 2 ^ p) 1 ∙ sym (digit-eqb (bits / 2 ^ p % 2) (omega arith))

pub level-packed : (n : ℕ) (f : ℕ → Bool) (bits : ℕ) → bits ≡ packed n f → (p : ℕ) → p < n → level_bit bits p ≡ f p
unfolding level_bit
level-packed n f bits e p h = rw e (packed-bit n f p h)
