-- What trying a variable at one level after the other finds.
-- Assumes nothing.
use Rattle.std.specs.Prelude.{Bool, cond, ◌&&◌, ◌||◌, List, ℕ, ◌+◌, eqb, ltb}
use Rattle.lists.specs.Lists.{index}
use Rattle.diagram.specs.Orders.Order.{moved}
use Rattle.diagram.specs.Table.{Table, cost}
use Rattle.diagram.specs.Orders.Sift.{chosen, sift}
use Rattle.sift.specs.declared.trials.Best.{Best}
use Rattle.sift.specs.declared.trials.Sifted.{Sifted}
use Rattle.sift.specs.Inner.Counts.{counts_under}

-- the cost of the order with v moved to level p
abbrev pub cost_at : Table → ℕ → List ℕ → ℕ → ℕ
cost_at t v order p = cost t (moved v p order)

-- whether v stands at level p
abbrev pub is_present : ℕ → List ℕ → ℕ → Bool
is_present v order p = eqb p (index eqb v order)

-- whether a level with so many nodes is taken: where none was tried before it, where it has fewer than the best, or as many and is
-- the present one
unfoldable pub taken : Best → ℕ → Bool → Bool
taken b nodes present = eqb b.tried 0 || (ltb nodes b.cost || (present && eqb nodes b.cost))

-- the best with one trial more, of level p with so many nodes
unfoldable pub best_with : Best → ℕ → ℕ → Bool → Best
best_with b p nodes present =
    cond (taken b nodes present) (record { level = p; cost = nodes; tried = b.tried + 1 })
    (record { level = b.level; cost = b.cost; tried = b.tried + 1 })

-- the level that sifting v takes, the cost of the order with v there, and the n orders tried
unfoldable pub best_of : Table → ℕ → List ℕ → Best
best_of t v order =
    record { level = chosen t v order t.n; cost = cost_at t v order (chosen t v order t.n); tried = t.n }

-- the same, with the nodes of each level under the order that sifting v leaves
unfoldable pub sifted_of : Table → ℕ → List ℕ → Sifted
sifted_of t v order = record { best = best_of t v order; counts = counts_under t (sift t v order) }
