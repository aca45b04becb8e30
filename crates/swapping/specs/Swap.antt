-- Swapping in the cells (document 02, 2.7): 10, 22, 9, 24, 32, then 23 with the cells wanted; else section 4's network 'of the same filled
-- table under the new order'.
-- Assumes nothing.
use Rattle.std.specs.Prelude.{◌≡◌, Bool, true, cond, ◌&&◌, ◌||◌, List, ◌++◌, ℕ, suc, ◌*◌, eqb, ltb, leb, length, get_or, take, drop, Ok}
use Rattle.lists.specs.Written.{over}
use Rattle.diagram.specs.Networks.Diagram.{Diagram, gives}
use Rattle.diagram.specs.Orders.Order.{row_under}
use Rattle.diagram.specs.Table.{Table, network_of, cost, Computes, Solves, Fits}
use Rattle.diagram.specs.Demands.{Least}
use Rattle.diagram.specs.Canonical.Computed.{computed_table, canonical}
use Rattle.table.specs.Answer.{Answer, Outcome, outcome_of}
use Rattle.table.specs.declared.Refusal.TheVariants.{ShortBuffer, NoSuch, NoNetwork, BadCells, NotCanonical, TooSmall}
use Rattle.table.specs.declared.Done.{Done}
use Rattle.table.specs.declared.State.{State}
use Rattle.table.specs.Answer.{unless, done, number}
use Rattle.table.specs.State.{order_of, stage_of, is_network, exchanged, reordered_state}
use Rattle.fill.specs.Work.{work_size, zero_work}
use Rattle.lent.specs.Lent.{lent_diagram, numbers_of, roots_size}
use Rattle.lent.specs.Evaluate.{good_cells}
use Rattle.network.specs.Build.{capacity, network_state}

-- the diagram in the lent cells and roots, and the filled table: the one that it computes
abbrev pub held_diagram : State → List ℕ → List ℕ → Diagram
held_diagram s roots cells = lent_diagram s.count s.m cells roots

abbrev pub cell_table : State → List ℕ → List ℕ → Table
cell_table s roots cells = computed_table true s.n s.m (order_of s) (held_diagram s roots cells)

-- the new order: places p and p + 1 exchanged
abbrev pub exchanged_order : State → ℕ → List ℕ
exchanged_order s p = take s.n (exchanged p s.order)

-- section 4's network of that table under the new order, and its cells
unfoldable pub swapped_network : State → ℕ → List ℕ → List ℕ → Diagram
swapped_network s p roots cells = network_of true (cell_table s roots cells) (exchanged_order s p)

unfoldable pub swapped_count : State → ℕ → List ℕ → List ℕ → ℕ
swapped_count s p roots cells = cost (cell_table s roots cells) (exchanged_order s p)

-- the checks before 23, and what comes after them
unfoldable pub swap_checks : State → ℕ → List ℕ → List ℕ → List ℕ → Answer → Answer
swap_checks s p work roots cells next =
    unless (leb work_size (length work) && leb roots_size (length roots)) ShortBuffer
    (unless (is_network (stage_of s)) NoNetwork
    (unless (ltb (suc p) s.n) NoSuch
    (unless (good_cells s roots cells) BadCells
    (unless (canonical true s.n s.m (order_of s) (held_diagram s roots cells)) NotCanonical next))))

unfoldable pub swap_cells_answer : State → ℕ → List ℕ → List ℕ → List ℕ → Answer
swap_cells_answer s p work roots cells =
    swap_checks s p work roots cells
    (unless (leb (swapped_count s p roots cells) (capacity cells)) (TooSmall (swapped_count s p roots cells)) (Ok 0))

-- the checks before 23 are passed
abbrev pub reaches_swap : State → ℕ → List ℕ → List ℕ → List ℕ → Bool
reaches_swap s p work roots cells = done (swap_checks s p work roots cells (Ok 0))

-- the new order, 'the state keeps stage network'
unfoldable pub swap_cells_outcome : State → ℕ → List ℕ → List ℕ → List ℕ → Outcome
swap_cells_outcome s p work roots cells =
    outcome_of (swap_cells_answer s p work roots cells)
    (network_state (reordered_state s (exchanged p s.order)) (swapped_count s p roots cells))

-- 'Every call that writes cells writes all 16 roots (unused ones zero) and leaves cells past the new count unchanged'
unfoldable pub swap_cells_roots : State → ℕ → List ℕ → List ℕ → List ℕ → List ℕ
swap_cells_roots s p work roots cells =
    cond (done (swap_cells_answer s p work roots cells))
    (over (λ j. get_or (swapped_network s p roots cells).roots j 0) roots_size roots) roots

unfoldable pub swap_cells_cells : State → ℕ → List ℕ → List ℕ → List ℕ → List ℕ
swap_cells_cells s p work roots cells =
    cond (done (swap_cells_answer s p work roots cells))
    (numbers_of (swapped_network s p roots cells).nodes ++ drop (3 * swapped_count s p roots cells) cells) cells

-- zero after a success, 23 and 32
abbrev pub clears_swap : Answer → Bool
clears_swap a = done a || (eqb (number a) 23 || eqb (number a) 32)

unfoldable pub swap_cells_work : State → ℕ → List ℕ → List ℕ → List ℕ → List ℕ
swap_cells_work s p work roots cells = cond (clears_swap (swap_cells_answer s p work roots cells)) (zero_work work) work

-- Demands 2 and 3 after a success, 'for that same filled table': r is what the call answers and leaves, D the diagram in the lent cells and roots
-- afterwards, and this the board
pub record Swapped (s : State) (p : ℕ) (roots cells : List ℕ) (r : Done) (D : Diagram) (board : ℕ) : Type 0 where
  -- well-formed, one root an output, and it computes the table under the new order
  pub solves : Solves true (cell_table s roots cells) (exchanged_order s p) D
  -- every row evaluates as before
  pub same :
      Computes true s.n s.m (exchanged_order s p) D
      (λ j row. gives true (held_diagram s roots cells) (row_under s.n (order_of s) row) s.n (get_or (held_diagram s roots cells).roots j 0))
  -- its cells are the state's count, and the board has them all
  pub counted : length D.nodes ≡ r.state.count
  pub fits : Fits D board
  -- no diagram for the table under the new order has fewer
  pub least : Least true (cell_table s roots cells) (exchanged_order s p) r.state.count
