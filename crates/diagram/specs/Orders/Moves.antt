-- Document 02, 2.8: what moving each variable to each level would bring.
-- Assumes nothing.
use Rattle.std.specs.Prelude.{◌≡◌, true, List, ℕ, ◌/◌, ◌%◌, ◌<◌, ℤ, pos, ◌+ℤ◌, ◌-ℤ◌, length, ◌≤ℤ◌}
use Rattle.diagram.specs.Networks.Diagram.{Diagram}
use Rattle.diagram.specs.Orders.Order.{moved}
use Rattle.diagram.specs.Table.{Table, Solves, cost}

-- 'the cells under that move minus the cells now, as a signed number': both are of the table filled afresh
unfoldable pub gain : Table → List ℕ → ℕ → ℕ → ℤ
gain t order v p = pos (cost t (moved v p order)) -ℤ pos (cost t order)

-- 'entry n × input + place': entry e is of the variable e / n at the level e % n (law gain-entry)
unfoldable pub gain_at : Table → List ℕ → ℕ → ℤ
gain_at t order e = gain t order (e / t.n) (e % t.n)

-- z is the smallest of f 0 to f (n - 1)
pub record Smallest (n : ℕ) (f : ℕ → ℤ) (z : ℤ) : Type 0 where
  pub at : ℕ
  pub below : at < n
  pub there : f at ≡ z
  pub least : (p : ℕ) → p < n → z ≤ℤ f p

-- demand 3 of a move that brings z: every diagram that uses the moved order and computes the table filled under it has at least the
-- cells now and z more
unfoldable pub MovedLeast : Table → List ℕ → ℕ → ℕ → ℤ → Type 0
MovedLeast t order v p z = (D : Diagram) → Solves true t (moved v p order) D → (pos (cost t order) +ℤ z) ≤ℤ pos (length D.nodes)
