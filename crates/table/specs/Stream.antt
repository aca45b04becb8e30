-- Section 1 of document 01, the streams of value and care bits as a table.
-- Assumes nothing.
use Rattle.std.specs.Prelude.{Bool, ◌&&◌, List, ℕ, ◌+◌, ◌*◌, ◌/◌, ◌%◌, ◌^◌, ltb}
use Rattle.lists.specs.Bits.{digit, packed}
use Rattle.lists.specs.Sums.{sum_below}
use Rattle.diagram.specs.Filling.Fill.{Row}
use Rattle.diagram.specs.Table.{Table}
use Rattle.block.specs.Bits.{stream_bit}

-- section 8's `cared`: 'the number of cared bits in the stream' of m × 2ⁿ bits
unfoldable pub cared_bits : ℕ → ℕ → List ℕ → ℕ
cared_bits n m care = sum_below (λ i. digit (stream_bit care i)) (m * 2 ^ n)

-- the drawn table in lent bytes: 'a stream of m × 2ⁿ bits, output 0's rows first'
abbrev pub table_of : ℕ → ℕ → List ℕ → List ℕ → Table
table_of n m values care =
    record {
      n = n;
      m = m;
      row = λ j r. record { value = stream_bit values (j * 2 ^ n + r); care = stream_bit care (j * 2 ^ n + r) };
    }

-- byte i of a stream of a table's bits, 'output 0's rows first': `field` is a row's value or its care; past the stream all bits are zero
unfoldable pub plane_byte : (Row → Bool) → Table → ℕ → ℕ
plane_byte field t i =
    packed 8 (λ b. ltb (8 * i + b) (t.m * 2 ^ t.n) && field (t.row ((8 * i + b) / 2 ^ t.n) ((8 * i + b) % 2 ^ t.n)))
