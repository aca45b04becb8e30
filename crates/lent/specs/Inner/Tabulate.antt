-- The table that lent cells compute, bit by bit.
-- Assumes nothing.
use Rattle.std.specs.Prelude.{Bool, ◌&&◌, List, ℕ, ◌+◌, ◌*◌, ◌/◌, ◌%◌, ◌^◌, ltb}
use Rattle.lists.specs.Bits.{packed}
use Rattle.diagram.specs.Filling.Fill.{Row}
use Rattle.diagram.specs.Table.{Table}
use Rattle.table.specs.declared.State.{State}
use Rattle.lent.specs.Inner.Cells.{Followable, Rooted}

-- what it takes to evaluate every output
pub record Evaluable (s : State) (roots cells : List ℕ) : Type 0 where
  pub followable : Followable s.n s.count s.order cells
  pub rooted : Rooted s.m s.count roots cells

-- bit x of a stream of a table's bits: of the output and the row that it is of; past the stream it is zero
unfoldable pub table_bit : (Row → Bool) → Table → ℕ → Bool
table_bit field t x = ltb x (t.m * 2 ^ t.n) && field (t.row (x / 2 ^ t.n) (x % 2 ^ t.n))

-- byte i of a stream of `end` ones
unfoldable pub ones_byte : ℕ → ℕ → ℕ
ones_byte end i = packed 8 (λ b. ltb (8 * i + b) end)
