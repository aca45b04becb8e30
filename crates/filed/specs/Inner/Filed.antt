-- What the program that writes network files leaves on slices of any length: the file of what a build leaves, or a refusal's line.
-- Assumes nothing.
use Rattle.std.specs.Prelude.{cond, List, ℕ, Ok, Err}
use Rattle.table.specs.declared.State.{State}
use Rattle.table.specs.Answer.{Outcome, done}
use Rattle.network_file.specs.Write.{write_answer, write_work}
use Rattle.printed.specs.Built.{refused_line}
use Rattle.printed.specs.BuiltInput.{built_outcome, built_work, built_roots, built_cells}
use Rattle.filed.specs.NetworkFile.{network_file_bytes}

-- a held network's file, or the writer's refusal
unfoldable pub held_file : State → List ℕ → List ℕ → List ℕ → List ℕ → List ℕ
held_file s roots cells work out =
    cond (done (write_answer s roots cells work out)) (network_file_bytes s roots cells) (refused_line (write_answer s roots cells work out))

-- the file of what a build leaves, or the build's refusal
unfoldable pub outcome_file : Outcome → List ℕ → List ℕ → List ℕ → List ℕ → List ℕ
outcome_file (Ok r) roots cells work out = held_file r.state roots cells work out
outcome_file (Err refusal) roots cells work out = refused_line (Err refusal)

unfoldable pub outcome_work : Outcome → List ℕ → List ℕ → List ℕ → List ℕ → List ℕ
outcome_work (Ok r) roots cells work out = write_work r.state roots cells work out
outcome_work (Err refusal) roots cells work out = work

-- an input is read, built in the file's order, and its network written
unfoldable pub filed_text : List ℕ → List ℕ → List ℕ → List ℕ → List ℕ → List ℕ → List ℕ → List ℕ
filed_text file values care work roots cells out =
    outcome_file (built_outcome file values care work roots cells) (built_roots file values care work roots cells)
    (built_cells file values care work roots cells) (built_work file values care work roots cells) out

unfoldable pub filed_work : List ℕ → List ℕ → List ℕ → List ℕ → List ℕ → List ℕ → List ℕ → List ℕ
filed_work file values care work roots cells out =
    outcome_work (built_outcome file values care work roots cells) (built_roots file values care work roots cells)
    (built_cells file values care work roots cells) (built_work file values care work roots cells) out
