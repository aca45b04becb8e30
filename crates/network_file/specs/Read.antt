-- Request 2.2 of document 02, reading a network file: 10, what the file answers, 23, 24, 32.
-- Assumes nothing.
use Rattle.std.specs.Prelude.{◌≡◌, Bool, true, cond, ◌||◌, List, ℕ, ◌*◌, eqb, leb, length, Ok}
use Rattle.lists.specs.Written.{over}
use Rattle.diagram.specs.Networks.Diagram.{Diagram, well_formed}
use Rattle.diagram.specs.Table.{Table, Solves, Fits}
use Rattle.diagram.specs.Demands.{AsDrawn, Least}
use Rattle.diagram.specs.Canonical.Computed.{computed_table, canonical}
use Rattle.table.specs.Answer.{Answer, Outcome, outcome_of}
use Rattle.table.specs.declared.Refusal.TheVariants.{ShortBuffer, TooSmall, BadCells, NotCanonical}
use Rattle.table.specs.declared.State.{State}
use Rattle.table.specs.declared.Stage.TheVariants.{Network}
use Rattle.table.specs.Answer.{unless, unless_refused, number, done}
use Rattle.table.specs.State.{order_of}
use Rattle.table.specs.File.{file_inputs, file_outputs, file_order}
use Rattle.table.specs.Stream.{plane_byte}
use Rattle.table.specs.Calls.{plane_size, loaded_order}
use Rattle.fill.specs.Work.{zero_work}
use Rattle.fill.specs.Calls.{held_table}
use Rattle.lent.specs.Lent.{roots_size}
use Rattle.network.specs.Build.{capacity, long_enough, clears}
use Rattle.network_file.specs.File.{file_count, file_root, cell_number, file_diagram, network_file_answer}

-- 'That 23 goes by the file's count, right or wrong'; 32 is 'checked last'
unfoldable pub read_answer : List ℕ → List ℕ → List ℕ → List ℕ → List ℕ → List ℕ → Answer
read_answer file values care work roots cells =
    unless (long_enough values care work roots) ShortBuffer
    (unless_refused (network_file_answer file)
    (unless (leb (file_count file) (capacity cells)) (TooSmall (file_count file))
    (unless (well_formed true (file_inputs file) (file_outputs file) (file_diagram file)) BadCells
    (unless (canonical true (file_inputs file) (file_outputs file) (file_order file) (file_diagram file)) NotCanonical (Ok 0)))))

-- 'Reading leaves stage network'; order entries past n are zero
abbrev pub read_state : List ℕ → State
read_state file =
    record {
      n = file_inputs file;
      m = file_outputs file;
      order = loaded_order file;
      count = file_count file;
      stage = Network;
    }

unfoldable pub read_outcome : List ℕ → List ℕ → List ℕ → List ℕ → List ℕ → List ℕ → Outcome
read_outcome file values care work roots cells = outcome_of (read_answer file values care work roots cells) (read_state file)

-- 'the table that the cells compute in values, and every row cared'
abbrev pub read_table : List ℕ → Table
read_table file = computed_table true (file_inputs file) (file_outputs file) (file_order file) (file_diagram file)

unfoldable pub read_values : List ℕ → List ℕ → List ℕ → List ℕ → List ℕ → List ℕ → List ℕ
read_values file values care work roots cells =
    cond (done (read_answer file values care work roots cells)) (over (plane_byte (λ x. x.value) (read_table file)) plane_size values) values

unfoldable pub read_care : List ℕ → List ℕ → List ℕ → List ℕ → List ℕ → List ℕ → List ℕ
read_care file values care work roots cells =
    cond (done (read_answer file values care work roots cells)) (over (plane_byte (λ x. x.care) (read_table file)) plane_size care) care

-- the work buffer is zero after a success, 23 and 32
abbrev pub clears_checked : Answer → Bool
clears_checked a = clears a || eqb (number a) 32

unfoldable pub read_work : List ℕ → List ℕ → List ℕ → List ℕ → List ℕ → List ℕ → List ℕ
read_work file values care work roots cells =
    cond (clears_checked (read_answer file values care work roots cells)) (zero_work work) work

-- all sixteen roots, and the cells up to the count
unfoldable pub read_roots : List ℕ → List ℕ → List ℕ → List ℕ → List ℕ → List ℕ → List ℕ
read_roots file values care work roots cells =
    cond (done (read_answer file values care work roots cells)) (over (file_root file) roots_size roots) roots

unfoldable pub read_cells : List ℕ → List ℕ → List ℕ → List ℕ → List ℕ → List ℕ → List ℕ
read_cells file values care work roots cells =
    cond (done (read_answer file values care work roots cells)) (over (cell_number file) (3 * file_count file) cells) cells

-- Demands 2 and 3 after a success: s is the state after the call, values and care the table then, D the diagram in the lent cells and
-- roots, and this the board
pub record Given (s : State) (values care : List ℕ) (D : Diagram) (board : ℕ) : Type 0 where
  -- well-formed, one root an output, and it computes the filled table
  pub solves : Solves true (held_table s values care) (order_of s) D
  -- it gives every cared row as drawn
  pub drawn : AsDrawn true (held_table s values care) (order_of s) D
  -- its cells are the state's count, and the board has them all
  pub counted : length D.nodes ≡ s.count
  pub fits : Fits D board
  -- no diagram for the filled table has fewer
  pub least : Least true (held_table s values care) (order_of s) s.count
