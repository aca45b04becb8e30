-- The variable that comes next in a pass, where marks say which are sifted (law next-marked: it is diagram's `next`).
-- Assumes nothing.
use Rattle.std.specs.Prelude.{Bool, false, not, cond, List, ℕ, eqb, ltb, get_or}
use Rattle.lists.specs.Lists.{index, keep, up_to}
use Rattle.lists.specs.Most.{most}
use Rattle.diagram.specs.Table.{Table}
use Rattle.diagram.specs.Orders.Sift.{nodes_of}
use Rattle.sift.specs.declared.choice.Lead.{Lead}

-- who leads after the variable v, with so many nodes: one marked as sifted never does
unfoldable pub overtaken : Lead → ℕ → ℕ → Bool → Lead
overtaken l v nodes marked = cond marked l (cond (ltb nodes l.nodes) l (record { variable = v; nodes = nodes }))

-- a variable's nodes, by the nodes of each level
abbrev pub nodes_at : List ℕ → List ℕ → ℕ → ℕ
nodes_at counts order v = get_or counts (index eqb v order) 0

-- the variables below n that are not marked, lowest first
abbrev pub unmarked : ℕ → List Bool → List ℕ
unmarked n sifted = keep (λ v. not (get_or sifted v false)) (up_to n)

unfoldable pub next_of : Table → List ℕ → List Bool → ℕ
next_of t order sifted = most (nodes_of t order) (unmarked t.n sifted)
