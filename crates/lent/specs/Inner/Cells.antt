-- The lent cells with no roots, and what it takes to follow a row through them.
-- Assumes nothing.
use Rattle.std.specs.Prelude.{Bool, true, List, ℕ, ◌/◌, ◌%◌, ◌^◌, ◌≤◌, T, eqb, length, take}
use Rattle.lists.specs.Lists.{all}
use Rattle.diagram.specs.Networks.Diagram.{refers, node_good}
use Rattle.diagram.specs.Networks.Bound.{most_variables, most_outputs}
use Rattle.diagram.specs.Orders.Order.{is_order}
use Rattle.lent.specs.Lent.{lent_cells}

-- counted cells, all lent, that are good for n levels
pub record Levelled (n count : ℕ) (cells : List ℕ) : Type 0 where
  pub few : n ≤ most_variables
  pub held : count ≤ length cells / 3
  pub good : T (all (node_good true n (lent_cells count cells)) (lent_cells count cells).nodes)

-- and an order of n variables
pub record Followable (n count : ℕ) (order cells : List ℕ) : Type 0 where
  pub levelled : Levelled n count cells
  pub ordered : T (is_order n (take n order))

-- the row that packed bits mean: its bit of the variable at level p is bit p, the lowest that of level 0
unfoldable pub level_bit : ℕ → ℕ → Bool
level_bit bits p = eqb (bits / 2 ^ p % 2) 1

-- the first m of the lent roots, each a constant or to a counted cell
pub record Rooted (m count : ℕ) (roots cells : List ℕ) : Type 0 where
  pub few : m ≤ most_outputs
  pub fit : m ≤ length roots
  pub own : T (all (refers true (lent_cells count cells)) (take m roots))
