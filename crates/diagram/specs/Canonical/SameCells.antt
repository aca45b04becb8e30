-- Document 02, 2.10, 'Same ribbon, same cells': a filled table is recognised by its cells. Reduced ordered diagrams are canonical.
-- Assumes nothing.
use Rattle.std.specs.Prelude.{◌≡◌, Bool, List, ◌↔◌, ℕ, ◌<◌, ◌^◌, T, length}
use Rattle.diagram.specs.Networks.Diagram.{Diagram}
use Rattle.diagram.specs.Orders.Order.{is_order}
use Rattle.diagram.specs.Table.{Table, filled_bit, network_of}

-- two tables of n variables and m outputs are equal: every output's bit at every row
abbrev pub SameBits : ℕ → ℕ → (ℕ → ℕ → Bool) → (ℕ → ℕ → Bool) → Type 0
SameBits n m f g = (j r : ℕ) → j < m → r < 2 ^ n → f j r ≡ g j r

-- the values of a drawn table: of a fully cared one, all of it
abbrev pub value_at : Table → ℕ → ℕ → Bool
value_at t j r = (t.row j r).value

-- 'their cells, count and roots are equal'
pub record SameNetwork (D E : Diagram) : Type 0 where
  pub counts : length D.nodes ≡ length E.nodes
  pub cells : D.nodes ≡ E.nodes
  pub roots : D.roots ≡ E.roots

-- 'for the same n, m and order, two filled tables are equal if and only if their cells, count and roots are equal'
unfoldable pub SameCells : Bool → Type 0
SameCells inv =
    (t u : Table) (order other : List ℕ) → t.n ≡ u.n → t.m ≡ u.m → order ≡ other → T (is_order t.n order)
    → SameBits t.n t.m (filled_bit inv t order) (filled_bit inv u other)
    ↔ SameNetwork (network_of inv t order) (network_of inv u other)
