-- How many rows there are, and how many bytes they take: eight rows to a byte. Fewer than eight rows take one byte.
-- Assumes nothing.
use Rattle.std.specs.Prelude.{cond, ℕ, zero, suc, ◌+◌, ◌^◌, leb, ltb}
use Rattle.diagram.specs.Networks.Bound.{most_variables}

-- how many bytes the rows of d variables take
abbrev pub width : ℕ → ℕ
width zero = 1
width (suc d) = cond (ltb d 3) 1 (width d + width d)

-- the same up to the most variables, and past them none
unfoldable pub width_up_to : ℕ → ℕ
width_up_to d = cond (leb d most_variables) (width d) 0

-- the rows of the most variables, and the bytes of an entry's part: those of its values and those of its care
unfoldable pub most_rows : ℕ
most_rows = 2 ^ most_variables

unfoldable pub part_size : ℕ
part_size = width most_variables + width most_variables
