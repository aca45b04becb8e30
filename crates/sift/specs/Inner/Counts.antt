-- The nodes of each level, of one order and of the orders that a variable is tried in: in one list those of level p, with the variable
-- there, stand from most_variables * p on.
-- Assumes nothing.
use Rattle.std.specs.Prelude.{◌≡◌, true, ℕ, ◌+◌, ◌<◌, ℤ, pos, ◌-ℤ◌}
use mathlib.Core.List.{List, sum}
use Rattle.diagram.specs.Networks.Network.{counts}
use Rattle.diagram.specs.Orders.Order.{moved}
use Rattle.diagram.specs.Table.{Table, filled}
use Rattle.fill.specs.Calls.{per_level, counts_of}

-- the nodes of each level under an order
unfoldable pub counts_under : Table → List ℕ → List ℕ
counts_under t order = per_level (counts true t.n (filled true t order))

-- those of each level are of the order with v moved there
pub record MovedCounts (t : Table) (v : ℕ) (order cs : List ℕ) : Type 0 where
  pub at : (p : ℕ) → p < t.n → counts_of p cs ≡ counts_under t (moved v p order)

-- what level p would bring, by the counts with the variable there and the nodes now
abbrev pub counts_gain : ℕ → List ℕ → ℕ → ℤ
counts_gain present cs p = pos (sum ◌+◌ 0 (counts_of p cs)) -ℤ pos present
