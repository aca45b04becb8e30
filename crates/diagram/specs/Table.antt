-- A drawn table, and sections 3 and 4 of document 01 for it under an order: what is filled, the network, the cost.
-- Assumes nothing.
use Rattle.std.specs.Prelude.{◌≡◌, Bool, true, false, List, map, ℕ, ◌≤◌, ◌<◌, ◌^◌, T, length, get_or}
use Rattle.lists.specs.Lists.{up_to}
use Rattle.diagram.specs.Tree.{Tree, draw, at, full}
use Rattle.diagram.specs.Filling.Fill.{Row, fill}
use Rattle.diagram.specs.Networks.Diagram.{Diagram, well_formed, gives}
use Rattle.diagram.specs.Networks.Network.{network, count}
use Rattle.diagram.specs.Orders.Order.{row_under, behind}

-- n variables, m outputs, and the row of each output at each row number
pub record Table : Type 0 where
  pub n : ℕ
  pub m : ℕ
  pub row : ℕ → ℕ → Row

-- 'fully cared': no row is free
abbrev pub FullyCared : Table → Type 0
FullyCared t = (j r : ℕ) → j < t.m → r < 2 ^ t.n → T (t.row j r).care

-- 'Reorder the table so that the top place is the most significant row bit'
abbrev pub reordered : (t : Table) → List ℕ → ℕ → Tree Row t.n
reordered t order j = draw t.n (λ s. t.row j (behind t.n order s)) 0

-- the filled function of each output, under an order
unfoldable pub filled : Bool → (t : Table) → List ℕ → List (Tree Bool t.n)
filled inv t order = fill inv t.n (map (reordered t order) (up_to t.m))

-- the filled table: output j's bit at the drawn row r
unfoldable pub filled_bit : Bool → (t : Table) → List ℕ → ℕ → ℕ → Bool
filled_bit inv t order j r = at 0 (row_under t.n order r) (get_or (filled inv t order) j (full false t.n))

-- section 4's network for the filled table
unfoldable pub network_of : Bool → Table → List ℕ → Diagram
network_of inv t order = network inv t.n (filled inv t order)

-- 'An order's cost is section 4's count for the lent table filled afresh under it'
unfoldable pub cost : Table → List ℕ → ℕ
cost t order = count true t.n (filled true t order)

-- D, under the order, gives the bits `want j r` at output j's root and drawn row r
unfoldable pub Computes : Bool → ℕ → ℕ → List ℕ → Diagram → (ℕ → ℕ → Bool) → Type 0
Computes inv n m order D want =
    (j r : ℕ) → j < m → r < 2 ^ n → gives inv D (row_under n order r) n (get_or D.roots j 0) ≡ want j r

-- a diagram that uses the order and computes the table filled under it
pub record Solves (inv : Bool) (t : Table) (order : List ℕ) (D : Diagram) : Type 0 where
  pub formed : T (well_formed inv t.n t.m D)
  pub computes : Computes inv t.n t.m order D (filled_bit inv t order)

-- 'fits the board if its cells are at most the board's size'
abbrev pub Fits : Diagram → ℕ → Type 0
Fits D capacity = length D.nodes ≤ capacity
