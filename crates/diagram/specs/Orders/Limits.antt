-- Document 02, 2.10: sifting never ends with more cells than it began with, and a pass under a larger limit never with more than under a
-- smaller one.
-- Assumes nothing.
use Rattle.std.specs.Prelude.{List, ℕ, ◌≤◌, ◌<◌, T}
use Rattle.diagram.specs.Orders.Order.{is_order}
use Rattle.diagram.specs.Table.{Table, cost}
use Rattle.diagram.specs.Orders.Sift.{sift, pass}

-- no single sift ends with more cells than the order that it found
unfoldable pub SiftNoDearer : Type 0
SiftNoDearer =
    (t : Table) (v : ℕ) (order : List ℕ) → T (is_order t.n order) → v < t.n → cost t (sift t v order) ≤ cost t order

-- no pass does
unfoldable pub PassNoDearer : Type 0
PassNoDearer =
    (t : Table) (limit : ℕ) (order : List ℕ) → T (is_order t.n order) → cost t (pass t limit order).order ≤ cost t order

-- 'a pass with a larger limit never ends with more cells than the same pass with a smaller one'
unfoldable pub LargerLimit : Type 0
LargerLimit =
    (t : Table) (smaller larger : ℕ) (order : List ℕ) → T (is_order t.n order) → smaller ≤ larger
    → cost t (pass t larger order).order ≤ cost t (pass t smaller order).order
