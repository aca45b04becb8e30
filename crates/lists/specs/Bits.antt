-- Bits: one inverted, one as a number, the bits of a number, and bits packed into one.
-- Assumes nothing.
use Rattle.std.specs.Prelude.{Bool, true, false, not, ℕ, zero, suc, ◌+◌, ◌*◌, ◌-◌, ◌/◌, ◌%◌, ◌^◌, eqb}

-- a bit, inverted where i is true
abbrev pub flip : Bool → Bool → Bool
flip true b = not b
flip false b = b

abbrev pub digit : Bool → ℕ
digit true = 1
digit false = 0

-- the number of n bits whose bit v is a v; bit 0 is the most significant
abbrev pub row_number : ℕ → (ℕ → Bool) → ℕ
row_number zero a = 0
row_number (suc n) a = 2 * row_number n a + digit (a n)

-- bit v of a number of n bits; bit 0 is the most significant
unfoldable pub bit : ℕ → ℕ → ℕ → Bool
bit n v x = eqb (x / 2 ^ (n - suc v) % 2) 1

-- bits 0 to k - 1 as a number, bit 0 the lowest
abbrev pub packed : ℕ → (ℕ → Bool) → ℕ
packed zero f = 0
packed (suc k) f = packed k f + digit (f k) * 2 ^ k
