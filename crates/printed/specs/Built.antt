-- What the programs make of an accepted input, of the input alone: its planes, its network, the state that holds it, and what is left in
-- the buffers that they are lent. And a refusal's line, and what it means that an output is whole (document 01, section 8).
-- Assumes nothing.
use Rattle.std.specs.Prelude.{◌≡◌, true, cond, List, [], ◌∷◌, ◌++◌, ℕ, ◌+◌, ◌*◌, length, get_or, drop}
use Rattle.lists.specs.Written.{over}
use Rattle.diagram.specs.Networks.Diagram.{Diagram}
use Rattle.diagram.specs.Table.{network_of}
use Rattle.table.specs.Answer.{Answer}
use Rattle.table.specs.declared.State.{State}
use Rattle.table.specs.Answer.{number, done}
use Rattle.table.specs.Stream.{table_of}
use Rattle.table.specs.File.{file_inputs, file_outputs, file_order, stream_blocks}
use Rattle.table.specs.Calls.{loaded_state, loaded_plane}
use Rattle.fill.specs.Work.{zero_work}
use Rattle.lent.specs.Lent.{numbers_of, roots_size}
use Rattle.network.specs.Build.{network_state}
use Rattle.text.specs.Text.{line}
use Rattle.printed.specs.Input.{input_answer}

-- 'A refusal prints one line, as `refused 7`'
abbrev pub refused-keyword : List ℕ
refused-keyword = 114 ∷ 101 ∷ 102 ∷ 117 ∷ 115 ∷ 101 ∷ 100 ∷ []

unfoldable pub refused_line : Answer → List ℕ
refused_line a = line refused-keyword (number a)

-- the two planes that an accepted file loads into lent ones; into none, the bytes that a call uses
abbrev pub values_plane : List ℕ → List ℕ → List ℕ
values_plane file plane = loaded_plane file 1 plane

abbrev pub care_plane : List ℕ → List ℕ → List ℕ
care_plane file plane = loaded_plane file (1 + stream_blocks (file_inputs file) (file_outputs file)) plane

-- section 4's network of an accepted file's table, filled in the file's order
unfoldable pub file_network : List ℕ → Diagram
file_network file =
    network_of true (table_of (file_inputs file) (file_outputs file) (values_plane file []) (care_plane file [])) (file_order file)

-- the state that holds it: the file's heading, and the count of its cells
abbrev pub network_held : List ℕ → State
network_held file = network_state (loaded_state file) (length (file_network file).nodes)

-- what is left in a buffer: what an accepted input writes there, else as found
abbrev pub where_read : List ℕ → List ℕ → List ℕ → List ℕ
where_read file written found = cond (done (input_answer file)) written found

abbrev pub output_values : List ℕ → List ℕ → List ℕ
output_values file values = where_read file (values_plane file values) values

abbrev pub output_care : List ℕ → List ℕ → List ℕ
output_care file care = where_read file (care_plane file care) care

abbrev pub output_work : List ℕ → List ℕ → List ℕ
output_work file work = where_read file (zero_work work) work

abbrev pub output_roots : List ℕ → List ℕ → List ℕ
output_roots file roots = where_read file (over (λ j. get_or (file_network file).roots j 0) roots_size roots) roots

abbrev pub output_cells : List ℕ → List ℕ → List ℕ
output_cells file cells =
    where_read file (numbers_of (file_network file).nodes ++ drop (3 * length (file_network file).nodes) cells) cells

-- a text that stands whole at the front of a buffer, by its length and its bytes; what lies behind it is as before
pub record Whole (before after : List ℕ) (answered : ℕ) (text : List ℕ) : Type 0 where
  pub end : answered ≡ length text
  pub content : after ≡ text ++ drop (length text) before
