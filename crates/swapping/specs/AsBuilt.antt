-- Request 2.7 of document 02: 'Where the held network is a fully cared table's and the board is enough, the two ways agree bit for bit.'
-- One way swaps in the cells, the other swaps the order and builds.
-- Assumes nothing.
use Rattle.std.specs.Prelude.{◌≡◌, true, List, ℕ, suc, ◌≤◌, ◌<◌, length, Ok}
use Rattle.diagram.specs.Table.{FullyCared, cost}
use Rattle.table.specs.declared.State.{State}
use Rattle.table.specs.Answer.{done, state_after}
use Rattle.table.specs.Calls.{swap_outcome}
use Rattle.fill.specs.Work.{work_size}
use Rattle.fill.specs.Calls.{held_table}
use Rattle.network.specs.Build.{capacity, build_answer, build_outcome, build_roots, build_cells, build_work}
use Rattle.swapping.specs.Swap.{exchanged_order, swap_cells_answer, swap_cells_outcome, swap_cells_roots, swap_cells_cells, swap_cells_work}

-- the state after a swap of the order
abbrev pub swapped_state : State → ℕ → State
swapped_state s p = state_after s (swap_outcome s p)

-- the two ways from one state and the same buffers: the swap in the cells is a success, and both leave the same
pub record Agree (s : State) (p : ℕ) (values care work roots cells : List ℕ) : Type 0 where
  pub answer : swap_cells_answer s p work roots cells ≡ Ok 0
  pub same-state : state_after s (swap_cells_outcome s p work roots cells)
      ≡ state_after (swapped_state s p) (build_outcome (swapped_state s p) values care work roots cells)
  pub same-roots : swap_cells_roots s p work roots cells ≡ build_roots (swapped_state s p) values care work roots cells
  pub same-cells : swap_cells_cells s p work roots cells ≡ build_cells (swapped_state s p) values care work roots cells
  pub same-work : swap_cells_work s p work roots cells ≡ build_work (swapped_state s p) values care work roots cells

-- after a build of a fully cared table that succeeded on a board with room for the cells wanted under the new order too; the work
-- buffer lent then may be another
unfoldable pub AsBuilt : Type 0
AsBuilt =
    (s : State) (p : ℕ) (values care work₀ roots cells work : List ℕ)
    → done (build_answer s values care work₀ roots cells) ≡ true
    → FullyCared (held_table s values care)
    → cost (held_table s values care) (exchanged_order s p) ≤ capacity cells
    → suc p < s.n
    → work_size ≤ length work
    → Agree (state_after s (build_outcome s values care work₀ roots cells)) p values care work (build_roots s values care work₀ roots cells)
    (build_cells s values care work₀ roots cells)
