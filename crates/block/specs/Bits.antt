-- Bytes of a lent slice as a stream of bits and as words (document 01, section 1): 'bit i of the stream is bit i mod 8 of byte i/8,
-- lowest bit first'.
-- Assumes nothing.
use Rattle.std.specs.Prelude.{Bool, List, ℕ, zero, suc, ◌+◌, ◌*◌, ◌/◌, ◌%◌, ◌^◌, eqb, get_or}

unfoldable pub stream_bit : List ℕ → ℕ → Bool
stream_bit bytes i = eqb (get_or bytes (i / 8) 0 / 2 ^ (i % 8) % 2) 1

-- k bytes from byte `at` on as a number, the lowest first
abbrev pub word_of : List ℕ → ℕ → ℕ → ℕ
word_of bytes at zero = 0
word_of bytes at (suc k) = word_of bytes at k + get_or bytes (at + k) 0 * 2 ^ (8 * k)
