-- The state as a slice of 64-bit words, and an answer as one word: the layout for other languages.
-- Assumes nothing.
use Rattle.std.specs.Prelude.{cond, List, [], ◌∷◌, ℕ, ◌+◌, ◌*◌, ◌^◌, eqb, get_or, take, drop}
use Rattle.std.proofs.Math.Seq.{paste}
use Rattle.diagram.specs.Networks.Bound.{most_variables}
use Rattle.table.specs.Answer.{Answer}
use Rattle.table.specs.declared.State.{State}
use Rattle.table.specs.declared.Stage.{Stage}
use Rattle.table.specs.declared.Stage.TheVariants.{Nothing, Table as AtTable, Network}
use Rattle.table.specs.Answer.{number, value}

-- the words of a state: 'A state slice of fewer than 40 words is answered with 10 before all else'
abbrev pub state_words : ℕ
state_words = 40

-- where the order's entries begin; n, m, count and stage are words 0 to 3
abbrev pub order_at : ℕ
order_at = 8

-- 'stage: 0 nothing, 1 table, 2 network; any other counts as nothing'
abbrev pub stage_from : ℕ → Stage
stage_from w = cond (eqb w 1) AtTable (cond (eqb w 2) Network Nothing)

abbrev pub stage_word : Stage → ℕ
stage_word Nothing = 0
stage_word AtTable = 1
stage_word Network = 2

-- the state that words hold
unfoldable pub state_from : List ℕ → State
state_from words =
    record {
      n = get_or words 0 0;
      m = get_or words 1 0;
      order = take most_variables (drop order_at words);
      count = get_or words 2 0;
      stage = stage_from (get_or words 3 0);
    }

-- the words after a state is written: all listed ones, and no other
unfoldable pub with_state : State → List ℕ → List ℕ
with_state s words =
    paste (paste words 0 (s.n ∷ s.m ∷ s.count ∷ stage_word s.stage ∷ []) 4) order_at s.order most_variables

-- 'the paper's number × 2³² + the value'
abbrev pub value_limit : ℕ
value_limit = 2 ^ 32

unfoldable pub answer_word : Answer → ℕ
answer_word a = number a * value_limit + value a
