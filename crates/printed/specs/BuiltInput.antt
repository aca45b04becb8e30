-- What the programs read and build on slices of any length: where they are too short for the table, a build's refusal.
-- Assumes nothing.
use Rattle.std.specs.Prelude.{Bool, cond, List, ℕ, is_ok}
use Rattle.table.specs.Answer.{Outcome, unless_refused}
use Rattle.table.specs.Calls.{loaded_state}
use Rattle.network.specs.Build.{build_outcome, build_roots, build_cells, build_work}
use Rattle.printed.specs.Input.{input_outcome, input_values, input_care}

-- the input as read: where it is, the state is the file's
abbrev pub read : List ℕ → List ℕ → List ℕ → Outcome
read file values care = input_outcome file values care

abbrev pub is_read : List ℕ → List ℕ → List ℕ → Bool
is_read file values care = is_ok (read file values care)

-- 'It reads a file, builds in the file's order'
unfoldable pub built_outcome : List ℕ → List ℕ → List ℕ → List ℕ → List ℕ → List ℕ → Outcome
built_outcome file values care work roots cells =
    unless_refused (read file values care)
    (build_outcome (loaded_state file) (input_values file values care) (input_care file values care) work roots cells)

-- what is left in the buffers of the build
unfoldable pub built_work : List ℕ → List ℕ → List ℕ → List ℕ → List ℕ → List ℕ → List ℕ
built_work file values care work roots cells =
    cond (is_read file values care)
    (build_work (loaded_state file) (input_values file values care) (input_care file values care) work roots cells) work

unfoldable pub built_roots : List ℕ → List ℕ → List ℕ → List ℕ → List ℕ → List ℕ → List ℕ
built_roots file values care work roots cells =
    cond (is_read file values care)
    (build_roots (loaded_state file) (input_values file values care) (input_care file values care) work roots cells) roots

unfoldable pub built_cells : List ℕ → List ℕ → List ℕ → List ℕ → List ℕ → List ℕ → List ℕ
built_cells file values care work roots cells =
    cond (is_read file values care)
    (build_cells (loaded_state file) (input_values file values care) (input_care file values care) work roots cells) cells
