-- What a state keeps whose cells are written, so that each number fits its bytes; and the sum that a block's check is of.
-- Assumes nothing.
use Rattle.std.specs.Prelude.{List, ℕ, suc, ◌*◌, ◌≤◌, T}
use Rattle.lists.specs.Sums.{sum_below}
use Rattle.diagram.specs.Networks.Bound.{most_variables, most_outputs, most_nodes}
use Rattle.diagram.specs.Orders.Order.{is_order}
use Rattle.block.specs.Block.{check_at}
use Rattle.table.specs.declared.State.{State}
use Rattle.table.specs.State.{order_of}
use Rattle.network_file.specs.Write.{block_content}

-- the most blocks that cells take (law cell-blocks-most)
abbrev pub most_cell_blocks : ℕ
most_cell_blocks = 26

-- the heading's rules, and no more cells than are ever needed
pub record Writable (s : State) : Type 0 where
  pub inputs : s.n ≤ most_variables
  pub outputs : s.m ≤ most_outputs
  pub ordered : T (is_order s.n (order_of s))
  pub counted : s.count ≤ most_nodes

-- the sum of (i + 1) × byte i for the bytes of block k before its check
unfoldable pub block_sum : State → List ℕ → List ℕ → ℕ → ℕ
block_sum s roots cells k = sum_below (λ j. suc j * block_content s roots cells k j) check_at
