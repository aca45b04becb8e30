-- Building (document 01, sections 2, 4 and 7): 10, 21, then 23 with the cells wanted; else section 4's network.
-- Assumes nothing.
use Rattle.std.specs.Prelude.{◌≡◌, Bool, true, cond, not, ◌&&◌, ◌||◌, List, ◌++◌, ℕ, ◌*◌, ◌/◌, eqb, leb, length, get_or, drop, Ok}
use Rattle.lists.specs.Written.{over}
use Rattle.diagram.specs.Networks.Diagram.{Diagram}
use Rattle.diagram.specs.Table.{network_of, cost, Solves, Fits}
use Rattle.diagram.specs.Demands.{AsDrawn, Least}
use Rattle.table.specs.Answer.{Answer, Outcome, outcome_of}
use Rattle.table.specs.declared.Refusal.TheVariants.{ShortBuffer, NoTable, TooSmall}
use Rattle.table.specs.declared.Done.{Done}
use Rattle.table.specs.declared.State.{State}
use Rattle.table.specs.declared.Stage.TheVariants.{Network}
use Rattle.table.specs.Answer.{unless, done, number}
use Rattle.table.specs.State.{order_of, stage_of, is_nothing}
use Rattle.table.specs.Calls.{plane_size}
use Rattle.fill.specs.Work.{work_size, zero_work}
use Rattle.fill.specs.Calls.{held_table}
use Rattle.lent.specs.Lent.{numbers_of, roots_size}

-- section 4's network of the table in the lent bytes, under the state's order
unfoldable pub held_network : State → List ℕ → List ℕ → Diagram
held_network s values care = network_of true (held_table s values care) (order_of s)

-- the cells wanted
unfoldable pub wanted : State → List ℕ → List ℕ → ℕ
wanted s values care = cost (held_table s values care) (order_of s)

-- 'The board's size is the cell slice's length divided by 3, rounded down'
abbrev pub capacity : List ℕ → ℕ
capacity cells = length cells / 3

-- no buffer is short: 10
abbrev pub long_enough : List ℕ → List ℕ → List ℕ → List ℕ → Bool
long_enough values care work roots =
    leb plane_size (length values) && (leb plane_size (length care) && (leb work_size (length work) && leb roots_size (length roots)))

-- the checks before 23 are passed: no buffer is short, and a table is held
unfoldable pub reaches_board : State → List ℕ → List ℕ → List ℕ → List ℕ → Bool
reaches_board s values care work roots = long_enough values care work roots && not (is_nothing (stage_of s))

unfoldable pub build_answer : State → List ℕ → List ℕ → List ℕ → List ℕ → List ℕ → Answer
build_answer s values care work roots cells =
    unless (long_enough values care work roots) ShortBuffer
    (unless (not (is_nothing (stage_of s))) NoTable
    (unless (leb (wanted s values care) (capacity cells)) (TooSmall (wanted s values care)) (Ok (wanted s values care))))

-- the state with a network of so many cells: 'Build makes it network'
abbrev pub network_state : State → ℕ → State
network_state s count = record { n = s.n; m = s.m; order = s.order; count = count; stage = Network }

unfoldable pub build_outcome : State → List ℕ → List ℕ → List ℕ → List ℕ → List ℕ → Outcome
build_outcome s values care work roots cells =
    outcome_of (build_answer s values care work roots cells) (network_state s (wanted s values care))

-- 'Every call that writes cells writes all 16 roots (unused ones zero) and leaves cells past the new count unchanged'
unfoldable pub build_roots : State → List ℕ → List ℕ → List ℕ → List ℕ → List ℕ → List ℕ
build_roots s values care work roots cells =
    cond (done (build_answer s values care work roots cells))
    (over (λ j. get_or (held_network s values care).roots j 0) roots_size roots) roots

unfoldable pub build_cells : State → List ℕ → List ℕ → List ℕ → List ℕ → List ℕ → List ℕ
build_cells s values care work roots cells =
    cond (done (build_answer s values care work roots cells))
    (numbers_of (held_network s values care).nodes ++ drop (3 * wanted s values care) cells) cells

-- 'Every call lent the work buffer leaves it zero after a success or 23'
abbrev pub clears : Answer → Bool
clears a = done a || eqb (number a) 23

unfoldable pub build_work : State → List ℕ → List ℕ → List ℕ → List ℕ → List ℕ → List ℕ
build_work s values care work roots cells = cond (clears (build_answer s values care work roots cells)) (zero_work work) work

-- Demands 2 and 3 after a success: r is what the call answers and leaves, D the diagram in the lent cells and roots, and this the board
pub record Built (s : State) (values care : List ℕ) (r : Done) (D : Diagram) (board : ℕ) : Type 0 where
  -- well-formed, one root an output, and it computes the filled table
  pub solves : Solves true (held_table s values care) (order_of s) D
  -- it gives every cared row as drawn
  pub drawn : AsDrawn true (held_table s values care) (order_of s) D
  -- its cells are the state's count, 'which build also answers', and the board has them all
  pub counted : length D.nodes ≡ r.state.count
  pub answered : length D.nodes ≡ r.value
  pub fits : Fits D board
  -- no diagram for the filled table has fewer
  pub least : Least true (held_table s values care) (order_of s) r.value
