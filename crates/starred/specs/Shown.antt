-- Section 9 of document 01, the starred tables, said of the calls: what a claim about a table comes to where that table is lent.
-- The contracts of build, count and sift equate what they do with build_outcome, build_cells, build_roots, count_answer and sift_outcome.
-- Assumes nothing.
use Rattle.std.specs.Prelude.{◌≡◌, Bool, true, false, cond, List, [], ◌++◌, ℕ, ◌+◌, ◌*◌, ◌≤◌, ◌<◌, ◌^◌, T, length, get_or, drop, Ok, Err}
use Rattle.lists.specs.Written.{over}
use Rattle.diagram.specs.Networks.Diagram.{Node}
use Rattle.diagram.specs.Table.{Table, filled_bit, cost}
use Rattle.diagram.specs.Starred.{Claim, builds, costs, sifts, fits}
use Rattle.table.specs.declared.Refusal.TheVariants.{TooSmall}
use Rattle.table.specs.declared.State.{State}
use Rattle.block.specs.Bits.{stream_bit}
use Rattle.table.specs.Answer.{answer_of, state_after}
use Rattle.table.specs.State.{order_of, stage_of, is_nothing}
use Rattle.fill.specs.Calls.{held_table, enough, count_answer}
use Rattle.lent.specs.Lent.{numbers_of, roots_size}
use Rattle.network.specs.Build.{capacity, long_enough, build_outcome, build_roots, build_cells}
use Rattle.sift.specs.Calls.{sift_outcome}

-- a state and lent bytes hold a table under an order: a state that isn't at stage nothing, with the table's n and m and that order;
-- each row's care bit, and its value bit where the row is cared
pub record Holds (t : Table) (order : List ℕ) (s : State) (values care : List ℕ) : Type 0 where
  pub inputs : s.n ≡ t.n
  pub outputs : s.m ≡ t.m
  pub ordered : order_of s ≡ order
  pub staged : is_nothing (stage_of s) ≡ false
  pub cared : (j r : ℕ) → j < t.m → r < 2 ^ t.n → stream_bit care (j * 2 ^ t.n + r) ≡ (t.row j r).care
  pub valued : (j r : ℕ) → j < t.m → r < 2 ^ t.n → T (t.row j r).care
      → stream_bit values (j * 2 ^ t.n + r) ≡ (t.row j r).value

-- a build answers as many cells as are claimed and writes them and the roots claimed; the rows are what the lent table fills to
pub record Builds (s : State) (values care work roots cells : List ℕ) (rows : List (List Bool)) (nodes : List Node) (refs : List ℕ)
    : Type 0 where
  pub answer : answer_of (build_outcome s values care work roots cells) ≡ Ok (length nodes)
  pub written : build_cells s values care work roots cells ≡ numbers_of nodes ++ drop (3 * length nodes) cells
  pub rooted : build_roots s values care work roots cells ≡ over (λ j. get_or refs j 0) roots_size roots
  pub filled : (j r : ℕ) → j < s.m → r < 2 ^ s.n
      → filled_bit true (held_table s values care) (order_of s) j r ≡ get_or (get_or rows j []) r false

-- a sift answers the cost claimed and leaves the order claimed
pub record Sifts (s : State) (v : ℕ) (values care work : List ℕ) (left : List ℕ) (c : ℕ) : Type 0 where
  pub answer : answer_of (sift_outcome s v values care work) ≡ Ok c
  pub order : order_of (state_after s (sift_outcome s v values care work)) ≡ left

-- a claim, of every state and all lent slices that hold its table under its order and are long enough
unfoldable pub Shown : Claim → Type 0
-- where the board has room for the cells claimed
Shown (builds t order rows nodes refs) =
    (s : State) (values care work roots cells : List ℕ) → Holds t order s values care
    → T (long_enough values care work roots) → length nodes ≤ capacity cells
    → Builds s values care work roots cells rows nodes refs
Shown (costs t order c) =
    (s : State) (values care work : List ℕ) → Holds t order s values care → T (enough values care work)
    → count_answer s values care work ≡ Ok c
-- where the input is one of the table's: no claim says so, and a sift of another is refused with 9
Shown (sifts t order v left c) =
    (s : State) (values care work : List ℕ) → Holds t order s values care → T (enough values care work) → v < t.n
    → Sifts s v values care work left c
-- a board of the size claimed, and the answer of a build on it: the cells if it is enough, else 23 with the cells wanted
Shown (fits t order b fit) =
    (s : State) (values care work roots cells : List ℕ) → Holds t order s values care
    → T (long_enough values care work roots) → capacity cells ≡ b
    → answer_of (build_outcome s values care work roots cells) ≡ cond fit (Ok (cost t order)) (Err (TooSmall (cost t order)))
