-- Demands 2 and 3 of document 01, as statements about a drawn table and an order.
-- Assumes nothing.
use Rattle.std.specs.Prelude.{◌≡◌, Bool, true, List, ℕ, suc, ◌*◌, ◌≤◌, ◌<◌, ◌^◌, T, eqb, length, get_or}
use Rattle.lists.specs.Lists.{without}
use Rattle.diagram.specs.Networks.Diagram.{Diagram, gives}
use Rattle.diagram.specs.Orders.Order.{is_order, row_under}
use Rattle.diagram.specs.Table.{Table, Solves, Fits, cost}
use Rattle.diagram.specs.Orders.Sift.{next, pass}

-- demand 2: the diagram, under the order, gives every cared row as drawn
unfoldable pub AsDrawn : Bool → Table → List ℕ → Diagram → Type 0
AsDrawn inv t order D =
    (j r : ℕ) → j < t.m → r < 2 ^ t.n → T (t.row j r).care
    → gives inv D (row_under t.n order r) t.n (get_or D.roots j 0) ≡ (t.row j r).value

-- demand 3, least: every diagram that uses the order and computes the table filled under it has at least c nodes
unfoldable pub Least : Bool → Table → List ℕ → ℕ → Type 0
Least inv t order c = (D : Diagram) → Solves inv t order D → c ≤ length D.nodes

-- demand 3, fit: no diagram that computes the filled table fits a board of this size
unfoldable pub NoneFits : Bool → Table → List ℕ → ℕ → Type 0
NoneFits inv t order capacity = (D : Diagram) → Solves inv t order D → Fits D capacity → ⊥

-- an order that differs from another only in the level of v: 'the others in sequence'
pub record Beside (n v : ℕ) (order other : List ℕ) : Type 0 where
  pub valid : T (is_order n other)
  pub others : without eqb v other ≡ without eqb v order

-- demand 3 after a sift of v that leaves this order at the cost c: no other level of v is cheaper, whatever diagram is taken there
unfoldable pub SiftedLeast : Table → ℕ → List ℕ → ℕ → Type 0
SiftedLeast t v left c = (other : List ℕ) → Beside t.n v left other → Least true t other c

-- 'The order just after the k-th sift of a pass is the one the same pass leaves under the limit n × k'
abbrev pub order_after : Table → List ℕ → ℕ → List ℕ
order_after t order k = (pass t (t.n * k) order).order

-- demand 3 at every turn of a pass, where the variable just sifted is the one that came next before it
unfoldable pub TurnsLeast : Table → List ℕ → Type 0
TurnsLeast t order =
    (k : ℕ) → k < t.n
    → SiftedLeast t (next t (pass t (t.n * k) order)) (order_after t order (suc k)) (cost t (order_after t order (suc k)))
