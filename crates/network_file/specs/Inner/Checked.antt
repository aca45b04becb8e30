-- A network file's last two tests, and a file that passes all.
-- Assumes nothing.
use Rattle.std.specs.Prelude.{◌≡◌, true, List, ℕ, ◌*◌, ◌≤◌, length, Ok}
use Rattle.diagram.specs.Networks.Diagram.{well_formed}
use Rattle.diagram.specs.Canonical.Computed.{canonical}
use Rattle.table.specs.Answer.{Answer}
use Rattle.table.specs.declared.Refusal.TheVariants.{BadCells, NotCanonical}
use Rattle.table.specs.Answer.{unless, done}
use Rattle.table.specs.File.{file_inputs, file_outputs, file_order}
use Rattle.table.specs.Calls.{plane_size}
use Rattle.lent.specs.Lent.{roots_size}
use Rattle.network_file.specs.File.{file_count, file_diagram, network_file_answer}

-- the last two tests: 24, then 32
unfoldable pub checked_answer : List ℕ → Answer
checked_answer file =
    unless (well_formed true (file_inputs file) (file_outputs file) (file_diagram file)) BadCells
    (unless (canonical true (file_inputs file) (file_outputs file) (file_order file) (file_diagram file)) NotCanonical (Ok 0))

-- a file that passes every test, and buffers with room for what it says
pub record Readable (file values care roots cells : List ℕ) : Type 0 where
  pub accepted : done (network_file_answer file) ≡ true
  pub checked : done (checked_answer file) ≡ true
  pub values-room : plane_size ≤ length values
  pub care-room : plane_size ≤ length care
  pub roots-room : roots_size ≤ length roots
  pub cells-room : 3 * file_count file ≤ length cells
