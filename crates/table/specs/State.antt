-- Section 2 of document 01: the state, when it is valid, and what a swap leaves.
-- Assumes nothing.
use Rattle.std.specs.Prelude.{Bool, true, false, cond, ◌&&◌, List, ℕ, suc, leb, get_or, set, take, replicate}
use Rattle.diagram.specs.Networks.Bound.{most_variables, most_outputs}
use Rattle.diagram.specs.Orders.Order.{is_order}
use Rattle.table.specs.declared.State.{State}
use Rattle.table.specs.declared.Stage.{Stage}
use Rattle.table.specs.declared.Stage.TheVariants.{Nothing, Table as AtTable, Network}

-- before any load
abbrev pub unloaded_state : State
unloaded_state = record { n = 0; m = 0; order = replicate most_variables 0; count = 0; stage = Nothing }

-- the heading's rules: n at most 10, m from 1 to 16, the order each input once
unfoldable pub good_heading : ℕ → ℕ → List ℕ → Bool
good_heading n m order = leb n most_variables && ((leb 1 m && leb m most_outputs) && is_order n order)

-- the order of the first n entries; the others are never used
abbrev pub order_of : State → List ℕ
order_of s = take s.n s.order

-- 'A state whose n, m or order breaks the heading's rules counts as stage nothing'
unfoldable pub stage_of : State → Stage
stage_of s = cond (good_heading s.n s.m (order_of s)) s.stage Nothing

abbrev pub is_nothing : Stage → Bool
is_nothing Nothing = true
is_nothing AtTable = false
is_nothing Network = false

abbrev pub is_network : Stage → Bool
is_network Nothing = false
is_network AtTable = false
is_network Network = true

-- the order with levels p and p + 1 exchanged
abbrev pub exchanged : ℕ → List ℕ → List ℕ
exchanged p order = set (set order p (get_or order (suc p) 0)) (suc p) (get_or order p 0)

-- the state with another order, as a call that changes it leaves it: stage table, no network
abbrev pub reordered_state : State → List ℕ → State
reordered_state s order = record { n = s.n; m = s.m; order = order; count = 0; stage = AtTable }
