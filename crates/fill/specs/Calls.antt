-- What the calls of this crate answer and leave (document 01, sections 2, 3, 4 and 7).
-- Assumes nothing.
use Rattle.std.specs.Prelude.{Bool, true, cond, not, ◌&&◌, List, [], ◌∷◌, map, ℕ, zero, suc, ◌*◌, leb, ltb, eqb, length, get_or}
use Rattle.std.specs.Prelude.{take, drop, Result, Ok}
use Rattle.lists.specs.Lists.{up_to}
use Rattle.lists.specs.Written.{splice}
use Rattle.diagram.specs.Networks.Bound.{most_variables}
use Rattle.diagram.specs.Tree.{Tree}
use Rattle.diagram.specs.Filling.Fill.{Row, level, candidates, trace}
use Rattle.diagram.specs.Networks.Network.{counts}
use Rattle.diagram.specs.Orders.Order.{moved}
use Rattle.diagram.specs.Table.{Table, reordered, filled, cost}
use Rattle.table.specs.Answer.{Answer}
use Rattle.table.specs.declared.Refusal.{Refusal}
use Rattle.table.specs.declared.Refusal.TheVariants.{ShortBuffer, NoTable}
use Rattle.table.specs.declared.State.{State}
use Rattle.table.specs.Answer.{unless, unless_refused, done}
use Rattle.table.specs.Stream.{table_of}
use Rattle.table.specs.State.{order_of, stage_of, is_nothing}
use Rattle.table.specs.Calls.{plane_size}
use Rattle.fill.specs.declared.Levels.{Levels}
use Rattle.fill.specs.Work.{work_size, trace_work, trials_zero, zero_work}

-- the table in the lent bytes
abbrev pub held_table : State → List ℕ → List ℕ → Table
held_table s values care = table_of s.n s.m values care

-- 10 for the values, the care and the work buffer
abbrev pub enough : List ℕ → List ℕ → List ℕ → Bool
enough values care work = leb plane_size (length values) && (leb plane_size (length care) && leb work_size (length work))

-- count: 10, then 21; the cells of the filled table's network under the state's order
unfoldable pub count_answer : State → List ℕ → List ℕ → List ℕ → Answer
count_answer s values care work =
    unless (enough values care work) ShortBuffer
    (unless (not (is_nothing (stage_of s))) NoTable (Ok (cost (held_table s values care) (order_of s))))

-- the work buffer is zero after a success, as found after a refusal
unfoldable pub count_work : State → List ℕ → List ℕ → List ℕ → List ℕ
count_work s values care work = cond (done (count_answer s values care work)) (zero_work work) work

-- the outputs as the levels see them: the candidates of level 0
abbrev pub drawn_outputs : (s : State) → List ℕ → List ℕ → List (Tree Row s.n)
drawn_outputs s values care = map (reordered (held_table s values care) (order_of s)) (up_to s.m)

-- how many entries each level has
unfoldable pub entry_counts : (d : ℕ) → List (Tree Row d) → List ℕ
entry_counts zero fs = []
entry_counts (suc d) fs = length (level true [] fs).entries ∷ entry_counts d (candidates (level true [] fs).entries)

-- a list as an array with a number for each level, and zeros past its end
abbrev pub per_level : List ℕ → List ℕ
per_level xs = map (λ k. get_or xs k 0) (up_to most_variables)

-- a held table's filling: the cells in all, and the entries and the cells of each level
unfoldable pub filled_levels : State → List ℕ → List ℕ → Levels
filled_levels s values care =
    record {
      cells = cost (held_table s values care) (order_of s);
      entries = per_level (entry_counts s.n (drawn_outputs s values care));
      counts = per_level (counts true s.n (filled true (held_table s values care) (order_of s)));
    }

-- the same refusals as a count's, then the levels of the filling
unfoldable pub levels_of : State → List ℕ → List ℕ → List ℕ → Result Levels Refusal
levels_of s values care work = unless_refused (count_answer s values care work) (Ok (filled_levels s values care))

-- the work buffer with the links of the filling
unfoldable pub links_work : State → List ℕ → List ℕ → List ℕ → List ℕ
links_work s values care work =
    cond (done (count_answer s values care work)) (trace_work (trace true s.n (drawn_outputs s values care)) work) work

-- how many counts trials give: one for each level, with a variable at each level
unfoldable pub counts_size : ℕ
counts_size = most_variables * most_variables

-- in lent counts, those of the levels with a variable at level p
abbrev pub counts_of : ℕ → List ℕ → List ℕ
counts_of p cs = take most_variables (drop (most_variables * p) cs)

-- the same put in, where there is such a level and room for the counts of all
unfoldable pub counts_put : ℕ → List ℕ → List ℕ → List ℕ
counts_put p known found =
    cond (ltb p most_variables && leb counts_size (length found)) (splice found (most_variables * p) known) found

-- the cells of each level under the state's order with its top variable moved to level p, the others in sequence: filled afresh
abbrev pub trial_counts : State → List ℕ → List ℕ → ℕ → List ℕ
trial_counts s values care p =
    per_level (counts true s.n (filled true (held_table s values care) (moved (get_or (order_of s) 0 0) p (order_of s))))

-- lent counts after the trials of the levels below k: those of level p stand from most_variables * p on; a level `except` is not tried, and
-- its counts are as found
unfoldable pub tried_counts : State → ℕ → List ℕ → List ℕ → List ℕ → ℕ → List ℕ
tried_counts s except values care found zero = found
tried_counts s except values care found (suc k) =
    cond (eqb k except) (tried_counts s except values care found k)
    (splice (tried_counts s except values care found k) (most_variables * k) (trial_counts s values care k))

-- trials: 10, of the lent counts too, then 21; the levels that the variable can stand at
unfoldable pub trials_answer : State → List ℕ → List ℕ → List ℕ → List ℕ → Answer
trials_answer s values care found work =
    unless (enough values care work && leb counts_size (length found)) ShortBuffer
    (unless (not (is_nothing (stage_of s))) NoTable (Ok s.n))

-- the counts after all trials, as found after a refusal
unfoldable pub trials_counts : State → ℕ → List ℕ → List ℕ → List ℕ → List ℕ → List ℕ
trials_counts s except values care found work =
    cond (done (trials_answer s values care found work)) (tried_counts s except values care found s.n) found

-- what the trials use of the work buffer is zero after them, as found after a refusal
unfoldable pub trials_work : State → List ℕ → List ℕ → List ℕ → List ℕ → List ℕ
trials_work s values care found work = cond (done (trials_answer s values care found work)) (trials_zero work) work
