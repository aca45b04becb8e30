-- That the claims of section 9 of document 01 say something of the calls: a caller can lend their tables.
-- Assumes nothing.
use Rattle.std.specs.Prelude.{◌≡◌, Bool, List, ℕ, ◌<◌, T, ltb, length}
use Rattle.lists.specs.Lists.{all}
use Rattle.diagram.specs.Networks.Bound.{most_variables}
use Rattle.diagram.specs.Table.{Table}
use Rattle.diagram.specs.Starred.{Claim, builds, costs, sifts, fits}
use Rattle.table.specs.declared.State.{State}
use Rattle.fill.specs.Calls.{enough}
use Rattle.starred.specs.Shown.{Holds}

-- every number of a list is a byte
abbrev pub is_bytes : List ℕ → Bool
is_bytes xs = all (λ b. ltb b 256) xs

-- a state with an order entry for each level there can be, and slices of bytes, long enough, that hold a table under an order; any roots
-- and cells do
pub record Lendable (t : Table) (order : List ℕ) : Type 0 where
  pub state : State
  pub values : List ℕ
  pub care : List ℕ
  pub work : List ℕ
  pub holds : Holds t order state values care
  pub entries : length state.order ≡ most_variables
  pub value_bytes : T (is_bytes values)
  pub care_bytes : T (is_bytes care)
  pub work_bytes : T (is_bytes work)
  pub long : T (enough values care work)

-- a claim whose table can be lent under its order, and whose sifted input is one of the table's
unfoldable pub Applies : Claim → Type 0
Applies (builds t order rows nodes refs) = Lendable t order
Applies (costs t order c) = Lendable t order
Applies (sifts t order v left c) = Lendable t order × (v < t.n)
Applies (fits t order b fit) = Lendable t order
