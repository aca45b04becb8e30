-- What the programs make of their input: a table file, of which no more than 65,536 bytes are taken (document 01, section 8).
-- Assumes nothing.
use Rattle.std.specs.Prelude.{Bool, cond, List, ℕ, ltb, length, Err}
use Rattle.table.specs.Answer.{Answer, Outcome}
use Rattle.table.specs.declared.Refusal.TheVariants.{BadLength}
use Rattle.table.specs.File.{file_answer}
use Rattle.table.specs.Calls.{load_outcome, load_values, load_care}

-- 'Input over 65,536 bytes prints `refused 1`'
abbrev pub longest_input : ℕ
longest_input = 65536

abbrev pub too_long : List ℕ → Bool
too_long file = ltb longest_input (length file)

-- what an input answers: 1 where it is too long, else as its file
unfoldable pub input_answer : List ℕ → Answer
input_answer file = cond (too_long file) (Err BadLength) (file_answer file)

-- a load of an input; one that is too long leaves both planes
unfoldable pub input_outcome : List ℕ → List ℕ → List ℕ → Outcome
input_outcome file values care = cond (too_long file) (Err BadLength) (load_outcome file values care)

unfoldable pub input_values : List ℕ → List ℕ → List ℕ → List ℕ
input_values file values care = cond (too_long file) values (load_values file values care)

unfoldable pub input_care : List ℕ → List ℕ → List ℕ → List ℕ
input_care file values care = cond (too_long file) care (load_care file values care)
