-- Several rows at a time: section 3's tests and merge on numbers of values and care, a row to a bit. The numbers are bytes, or words of up to
-- eight bytes. f and c are a candidate's, g and d an entry's.
-- Assumes nothing.
use Rattle.std.specs.Prelude.{Bool, cond, ℕ, eqb}
use Rattle.std.specs.Int.Bits.{bit_and, bit_or, bit_xor}

-- f is v wherever c is 1
unfoldable pub always_byte : Bool → ℕ → ℕ → Bool
always_byte v f c = eqb (bit_and f c) (cond v c 0)

-- f = g wherever c and d are both 1, f inverted where i is true
unfoldable pub agree_byte : Bool → ℕ → ℕ → ℕ → ℕ → Bool
agree_byte i f c g d = eqb (bit_and (bit_xor f g) (bit_and c d)) (cond i (bit_and c d) 0)

-- f as compared where c is 1, else g
unfoldable pub merge_byte : Bool → ℕ → ℕ → ℕ → ℕ
merge_byte i f c g = bit_or (bit_xor (bit_and f c) (cond i c 0)) (bit_xor (bit_and g c) g)
