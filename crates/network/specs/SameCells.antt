-- Document 02, 2.10, of two builds: a filled table is recognised by the cells, the count and the roots that its build leaves.
-- The contract of build equates what it does with build_answer, build_outcome, build_cells and build_roots.
-- Assumes nothing.
use Rattle.std.specs.Prelude.{◌≡◌, Bool, true, List, ◌↔◌, ℕ}
use Rattle.diagram.specs.Table.{filled_bit}
use Rattle.diagram.specs.Canonical.SameCells.{SameBits}
use Rattle.table.specs.declared.State.{State}
use Rattle.table.specs.Answer.{done, state_after}
use Rattle.table.specs.State.{order_of}
use Rattle.fill.specs.Calls.{held_table}
use Rattle.lent.specs.SameCells.{SameLent}
use Rattle.network.specs.Build.{build_answer, build_outcome, build_roots, build_cells}

-- what a build finds: the state, and all that is lent
pub record Found : Type 0 where
  pub state : State
  pub values : List ℕ
  pub care : List ℕ
  pub work : List ℕ
  pub roots : List ℕ
  pub cells : List ℕ

-- whether it is done, and the count, the cells and the roots that it leaves

abbrev pub builds : Found → Bool
builds b = done (build_answer b.state b.values b.care b.work b.roots b.cells)

abbrev pub count_left : Found → ℕ
count_left b = (state_after b.state (build_outcome b.state b.values b.care b.work b.roots b.cells)).count

abbrev pub cells_left : Found → List ℕ
cells_left b = build_cells b.state b.values b.care b.work b.roots b.cells

abbrev pub roots_left : Found → List ℕ
roots_left b = build_roots b.state b.values b.care b.work b.roots b.cells

-- the filled table of what is lent, under the state's order: output j's bit at row r
abbrev pub filled_held : Found → ℕ → ℕ → Bool
filled_held b = filled_bit true (held_table b.state b.values b.care) (order_of b.state)

-- 'for the same n, m and order, two filled tables are equal if and only if their cells, count and roots are equal': of any two builds that
-- are done, whatever else they find
unfoldable pub SameBuilds : Type 0
SameBuilds =
    (b c : Found) → builds b ≡ true → builds c ≡ true
    → b.state.n ≡ c.state.n → b.state.m ≡ c.state.m → order_of b.state ≡ order_of c.state
    → SameBits b.state.n b.state.m (filled_held b) (filled_held c)
    ↔ SameLent b.state.m (count_left b) (count_left c) (cells_left b) (cells_left c) (roots_left b) (roots_left c)
