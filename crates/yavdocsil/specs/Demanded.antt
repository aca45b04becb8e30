-- Demands 2 and 3 of document 01 of a table, as build, a single sift and a pass owe them of what they answer and leave; and that after a
-- log they owe them of the logged table (document 02, 2.4): 'Demands 2 and 3 then mean the table under the new care'.
-- The contracts equate what the calls do with log_outcome, log_care, build_outcome, build_cells, build_roots, sift_outcome and pass_outcome.
-- Assumes nothing.
use Rattle.std.specs.Prelude.{◌≡◌, true, IfOk, List, ◌↔◌, ℕ, ◌*◌, T, length}
use Rattle.diagram.specs.Networks.Diagram.{Diagram}
use Rattle.diagram.specs.Table.{Table, network_of, cost, Solves, Fits}
use Rattle.diagram.specs.Orders.Sift.{allowed}
use Rattle.diagram.specs.Demands.{AsDrawn, Least, NoneFits, SiftedLeast, order_after, TurnsLeast}
use Rattle.table.specs.declared.Done.{Done}
use Rattle.table.specs.declared.State.{State}
use Rattle.table.specs.Answer.{done, number, answer_of, state_after}
use Rattle.table.specs.State.{order_of}
use Rattle.lent.specs.Lent.{lent_diagram}
use Rattle.network.specs.Build.{capacity, reaches_board, build_outcome, build_roots, build_cells}
use Rattle.sift.specs.Calls.{sift_outcome, pass_outcome}
use Rattle.rowlog.specs.Log.{log_answer, log_outcome, log_care, logged_table}

-- of a build that is done, under an order: r is what it answers and leaves, D the network it gives, on a board of this size
pub record BuildDemands (t : Table) (order : List ℕ) (r : Done) (D : Diagram) (board : ℕ) : Type 0 where
  -- 'it is the one this section defines for the filled table', so it computes that
  pub network : D ≡ network_of true t order
  pub solves : Solves true t order D
  -- it gives every cared row as drawn
  pub drawn : AsDrawn true t order D
  -- its cells are the state's count and the value answered, and the board has them all
  pub counted : length D.nodes ≡ r.state.count
  pub answered : length D.nodes ≡ r.value
  pub fits : Fits D board
  -- no diagram for the filled table has fewer
  pub least : Least true t order r.value

-- of a single sift of v that is done: it answers the cost of the order that it leaves, and no other level of v is cheaper
pub record SiftDemands (t : Table) (v : ℕ) (r : Done) : Type 0 where
  pub answered : r.value ≡ cost t (order_of r.state)
  pub least : SiftedLeast t v (order_of r.state) r.value

-- of a pass that is done: the orders tried, demand 3 just after each sift, and the order just after the last sift that the limit allows
pub record PassDemands (t : Table) (order : List ℕ) (limit : ℕ) (r : Done) : Type 0 where
  pub tried : r.value ≡ t.n * allowed t.n limit
  pub turns : TurnsLeast t order
  pub left : order_of r.state ≡ order_after t order (allowed t.n limit)

-- 'The network given .. is the cells numbered 1 to the state's count, which build also answers, with the first m roots'
abbrev pub given : State → List ℕ → List ℕ → List ℕ → List ℕ → List ℕ → Diagram
given s values care work roots cells =
    lent_diagram (state_after s (build_outcome s values care work roots cells)).count s.m (build_cells s values care work roots cells)
    (build_roots s values care work roots cells)

-- what the calls on a state and lent values and care owe of a table: each where it is done; and 23 exactly when no diagram for the filled
-- table fits the board, where the checks before it are passed
pub record Demanded (t : Table) (s : State) (values care : List ℕ) : Type 0 where
  pub builds : (work roots cells : List ℕ)
      → IfOk (build_outcome s values care work roots cells)
      (λ r. BuildDemands t (order_of s) r (given s values care work roots cells) (capacity cells))
  pub fits : (work roots cells : List ℕ) → reaches_board s values care work roots ≡ true
      → (number (answer_of (build_outcome s values care work roots cells)) ≡ 23) ↔ NoneFits true t (order_of s) (capacity cells)
  pub sifts : (v : ℕ) (work : List ℕ) → IfOk (sift_outcome s v values care work) (SiftDemands t v)
  pub passes : (limit : ℕ) (work : List ℕ) → IfOk (pass_outcome s limit values care work) (PassDemands t (order_of s) limit)

-- after a log that is done: on the state and the care that it left, with any values
abbrev pub UnderNewCare : Type 0
UnderNewCare =
    (s : State) (rows : List ℕ) (least : ℕ) (counts care values : List ℕ) → T (done (log_answer s rows counts care))
    → Demanded (logged_table s values rows least counts) (state_after s (log_outcome s rows counts care)) values (log_care s rows least counts care)
