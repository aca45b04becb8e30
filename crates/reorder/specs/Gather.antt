-- Document 01, section 3: 'Reorder the table so that the top place is the most significant row bit.' The drawn row behind each row, and
-- the bytes that are gathered from the drawn rows of an output.
-- Assumes nothing.
use Rattle.std.specs.Prelude.{cond, ◌&&◌, List, ◌++◌, map, ℕ, ◌+◌, ◌*◌, ◌^◌, min, leb, ltb, get_or, take, drop, replicate}
use Rattle.lists.specs.Lists.{up_to}
use Rattle.lists.specs.Bits.{packed}
use Rattle.diagram.specs.Networks.Bound.{most_variables, most_outputs}
use Rattle.diagram.specs.Orders.Order.{behind}
use Rattle.block.specs.Bits.{stream_bit}
use Rattle.reorder.specs.Sizes.{width, most_rows, part_size}

-- the drawn row behind each row under the order of the first n entries; zeros past the rows, and where n is too large
unfoldable pub row_map : ℕ → List ℕ → List ℕ
row_map n order = map (λ s. cond (leb n most_variables && ltb s (2 ^ n)) (behind n (take n order) s) 0) (up_to most_rows)

-- k bits from row 8 * i on; `rows` has the drawn row behind each row, and the output's rows begin at bit `base` of the plane
abbrev pub gathered_byte : List ℕ → ℕ → List ℕ → ℕ → ℕ → ℕ
gathered_byte plane base rows k i = packed k (λ b. stream_bit plane (base + get_or rows (8 * i + b) 0))

-- all 2ⁿ rows
abbrev pub gathered_plane : List ℕ → ℕ → List ℕ → ℕ → List ℕ
gathered_plane plane base rows n = map (gathered_byte plane base rows (min 8 (2 ^ n))) (up_to (width n))

-- of output j, the values, then the care
abbrev pub gathered_part : List ℕ → List ℕ → List ℕ → ℕ → ℕ → List ℕ
gathered_part values care rows n j = gathered_plane values (j * 2 ^ n) rows n ++ gathered_plane care (j * 2 ^ n) rows n

-- an array of zeros written over from its front by what is gathered of output j; zeros alone where the variables are too many, or there is
-- no such output
unfoldable pub output_part : List ℕ → List ℕ → List ℕ → ℕ → ℕ → List ℕ
output_part values care rows n j =
    cond (leb n most_variables && ltb j most_outputs)
    (gathered_part values care rows n j ++ drop (width n + width n) (replicate part_size 0)) (replicate part_size 0)
