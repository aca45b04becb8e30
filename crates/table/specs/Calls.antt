-- What each call of this crate answers and leaves (document 01, sections 2, 6 and 7).
-- Assumes nothing.
use Rattle.std.specs.Prelude.{cond, not, ◌&&◌, List, map, ℕ, suc, ◌+◌, ltb, leb, length, Ok}
use Rattle.lists.specs.Lists.{up_to}
use Rattle.lists.specs.Written.{over}
use Rattle.diagram.specs.Networks.Bound.{most_variables}
use Rattle.block.specs.Block.{byte}
use Rattle.table.specs.declared.State.{State}
use Rattle.table.specs.Answer.{Answer, Outcome, outcome_of}
use Rattle.table.specs.declared.Refusal.TheVariants.{NoSuch, ShortBuffer, NoTable}
use Rattle.table.specs.declared.Stage.TheVariants.{Table as AtTable}
use Rattle.table.specs.Answer.{unless, done}
use Rattle.table.specs.Stream.{cared_bits}
use Rattle.table.specs.State.{stage_of, is_nothing, exchanged, reordered_state}
use Rattle.table.specs.File.{file_inputs, file_outputs, stream_blocks, stream_byte, file_answer}

-- the bytes of values or care that a call uses
unfoldable pub plane_size : ℕ
plane_size = 2048

-- load checks 10 first, then the file
unfoldable pub load_answer : List ℕ → List ℕ → List ℕ → Answer
load_answer file values care =
    unless (leb plane_size (length values) && leb plane_size (length care)) ShortBuffer (file_answer file)

-- 'A call that reads an order from a file zeroes the state's order entries past n'
abbrev pub loaded_order : List ℕ → List ℕ
loaded_order file = map (λ p. cond (ltb p (file_inputs file)) (byte file 0 (6 + p)) 0) (up_to most_variables)

-- 'After load the stage is table'
abbrev pub loaded_state : List ℕ → State
loaded_state file =
    record {
      n = file_inputs file;
      m = file_outputs file;
      order = loaded_order file;
      count = 0;
      stage = AtTable;
    }

-- the stream that block `first` begins, from byte 0, and zeros to 2,048 bytes
abbrev pub loaded_plane : List ℕ → ℕ → List ℕ → List ℕ
loaded_plane file first plane = over (stream_byte file first (stream_blocks (file_inputs file) (file_outputs file))) plane_size plane

unfoldable pub load_outcome : List ℕ → List ℕ → List ℕ → Outcome
load_outcome file values care = outcome_of (load_answer file values care) (loaded_state file)

unfoldable pub load_values : List ℕ → List ℕ → List ℕ → List ℕ
load_values file values care = cond (done (load_answer file values care)) (loaded_plane file 1 values) values

unfoldable pub load_care : List ℕ → List ℕ → List ℕ → List ℕ
load_care file values care =
    cond (done (load_answer file values care))
    (loaded_plane file (1 + stream_blocks (file_inputs file) (file_outputs file)) care) care

-- swap: 21, then 9
unfoldable pub swap_answer : State → ℕ → Answer
swap_answer s p = unless (not (is_nothing (stage_of s))) NoTable (unless (ltb (suc p) s.n) NoSuch (Ok 0))

unfoldable pub swap_outcome : State → ℕ → Outcome
swap_outcome s p = outcome_of (swap_answer s p) (reordered_state s (exchanged p s.order))

-- the number of cared bits in the stream: 10, then 21
unfoldable pub cared_answer : State → List ℕ → Answer
cared_answer s care =
    unless (leb plane_size (length care)) ShortBuffer
    (unless (not (is_nothing (stage_of s))) NoTable (Ok (cared_bits s.n s.m care)))
