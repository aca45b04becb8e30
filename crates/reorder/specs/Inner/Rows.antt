-- What each bit of a row adds to the drawn row behind it.
-- Assumes nothing.
use Rattle.std.specs.Prelude.{List, map, ℕ, ◌^◌, take}
use Rattle.lists.specs.Lists.{up_to}
use Rattle.diagram.specs.Networks.Bound.{most_variables}
use Rattle.diagram.specs.Orders.Order.{behind}

-- the drawn row behind each row of a single one, the lowest bit first
unfoldable pub row_shares : ℕ → List ℕ → List ℕ
row_shares n order = map (λ l. behind n (take n order) (2 ^ l)) (up_to most_variables)
