-- A pass under way as the code holds it: the order with what lies past n, the nodes of each level under it, a mark for each variable, the
-- turns, the orders tried.
-- Assumes nothing.
use Rattle.std.specs.Prelude.{Bool, true, List, ◌++◌, map, ℕ, ◌+◌, eqb, length, set, take, drop}
use Rattle.lists.specs.Lists.{has, up_to}
use Rattle.diagram.specs.Networks.Bound.{most_variables}
use Rattle.diagram.specs.Table.{Table}
use Rattle.diagram.specs.Orders.Sift.{sift, Pass}
use Rattle.table.specs.declared.State.{State}
use Rattle.fill.specs.Calls.{held_table}
use Rattle.sift.specs.declared.passes.Progress.{Progress}
use Rattle.sift.specs.Inner.Counts.{counts_under}
use Rattle.sift.specs.Inner.Choice.{next_of}

-- the marks of the variables sifted
abbrev pub marks : List ℕ → List Bool
marks sifted = map (λ v. has eqb v sifted) (up_to most_variables)

-- how a pass of the state's table is held
unfoldable pub progress_of : State → List ℕ → List ℕ → Pass → Progress
progress_of s values care q =
    record {
      order = q.order ++ drop s.n s.order;
      counts = counts_under (held_table s values care) q.order;
      sifted = marks q.sifted;
      turns = length q.sifted;
      tried = q.tried;
    }

-- the variable that comes next
abbrev pub next_in : Table → Progress → ℕ
next_in t p = next_of t (take t.n p.order) p.sifted

-- after one turn (law turn-held: of a pass that is so held, what diagram's `turn` leaves)
unfoldable pub turn_of : Table → Progress → Progress
turn_of t p =
    record {
      order = sift t (next_in t p) (take t.n p.order) ++ drop t.n p.order;
      counts = counts_under t (sift t (next_in t p) (take t.n p.order));
      sifted = set p.sifted (next_in t p) true;
      turns = p.turns + 1;
      tried = p.tried + t.n;
    }
