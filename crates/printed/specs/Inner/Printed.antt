-- What the printing program prints on slices of any length.
-- Assumes nothing.
use Rattle.std.specs.Prelude.{List, ℕ, Ok, Err}
use Rattle.table.specs.Answer.{Outcome, value}
use Rattle.table.specs.Calls.{cared_answer}
use Rattle.text.specs.Text.{network_text}
use Rattle.printed.specs.Input.{input_care}
use Rattle.printed.specs.Built.{refused_line}
use Rattle.printed.specs.BuiltInput.{built_outcome, built_roots, built_cells}

-- the network of a build with its cared bits, or the build's refusal
unfoldable pub outcome_text : Outcome → List ℕ → List ℕ → List ℕ → List ℕ
outcome_text (Ok r) care roots cells = network_text r.state (value (cared_answer r.state care)) roots cells
outcome_text (Err refusal) care roots cells = refused_line (Err refusal)

-- 'It reads a file, builds in the file's order, and prints'
unfoldable pub printed_text : List ℕ → List ℕ → List ℕ → List ℕ → List ℕ → List ℕ → List ℕ
printed_text file values care work roots cells =
    outcome_text (built_outcome file values care work roots cells) (input_care file values care)
    (built_roots file values care work roots cells) (built_cells file values care work roots cells)
