-- The care that counts give, bit by bit and byte by byte.
-- Assumes nothing.
use Rattle.std.specs.Prelude.{Bool, ◌&&◌, List, ℕ, ◌+◌, ◌*◌, ◌%◌, ◌^◌, ltb, leb, get_or}
use Rattle.lists.specs.Bits.{packed}

-- bit x of a stream of `end` bits, 2ⁿ an output: whether its row was counted so many times
unfoldable pub care_bit : List ℕ → ℕ → ℕ → ℕ → ℕ → Bool
care_bit counts least n end x = ltb x end && leb least (get_or counts (x % 2 ^ n) 0)

unfoldable pub counted_byte : List ℕ → ℕ → ℕ → ℕ → ℕ → ℕ
counted_byte counts least n end i = packed 8 (λ b. care_bit counts least n end (8 * i + b))
