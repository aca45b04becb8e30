-- A call on a state in words: its answer, and what it leaves. The calls themselves are defined in the crates below.
-- Assumes nothing.
use Rattle.std.specs.Prelude.{Bool, cond, List, ℕ, leb, length, Ok, Err}
use Rattle.table.specs.Answer.{Answer}
use Rattle.table.specs.declared.Refusal.TheVariants.{ShortBuffer}
use Rattle.table.specs.declared.Done.{Done}
use Rattle.table.specs.declared.State.{State}
use Rattle.table.specs.Answer.{Outcome, unless}
use Rattle.yavdocsil.specs.Words.{state_words, state_from, with_state, answer_word}

-- there are enough words for a state
abbrev pub is_state : List ℕ → Bool
is_state words = leb state_words (length words)

-- the answer of a call: 10 where the words are too few, else that of the state in them
unfoldable pub answer_to : List ℕ → (State → Answer) → ℕ
answer_to words call = answer_word (unless (is_state words) ShortBuffer (call (state_from words)))

-- a lent buffer after a call, of whatever numbers it is: as it was where the words are too few
unfoldable pub leaves : {A : Type 0} → List ℕ → (State → A) → A → A
leaves words call buffer = cond (is_state words) (call (state_from words)) buffer

-- 'A refusal writes no word of the state. A success of a call that changes the state writes all listed words'
unfoldable pub words_after : Outcome → List ℕ → List ℕ
words_after (Ok done) words = with_state done.state words
words_after (Err refusal) words = words

-- what a success answers and leaves, read off the word answer_to, which is below 2³², and the words left
abbrev pub success : ℕ → List ℕ → Done
success word words = record { value = word; state = state_from words }
