-- How large the numbers of a table file get.
-- Assumes nothing.
use Rattle.std.specs.Prelude.{ℕ, ◌*◌, ◌^◌}
use Rattle.diagram.specs.Networks.Bound.{most_variables, most_outputs}

-- the most bits of a stream, and the blocks they take: 'The longest file is 11 blocks'
abbrev pub most_bits : ℕ
most_bits = most_outputs * 2 ^ most_variables

abbrev pub most_blocks : ℕ
most_blocks = 5
