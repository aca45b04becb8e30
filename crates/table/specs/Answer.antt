-- Sections 6 and 7 of document 01, and the refusals of document 02: the number and the value of each answer; and
-- what comes of a call that changes the state.
-- Assumes nothing.
use Rattle.std.specs.Prelude.{Bool, cond, ℕ, zero, suc, Result, Ok, Err, is_ok}
use Rattle.table.specs.declared.State.{State}
use Rattle.table.specs.declared.Done.{Done}
use Rattle.table.specs.declared.Refusal.{Refusal}
use Rattle.table.specs.declared.Refusal.TheVariants.{BadLength, BadCheck, BadKind, BadInputs, BadOutputs, BadOrder}
use Rattle.table.specs.declared.Refusal.TheVariants.{BadContent, NoRow, NoSuch, ShortBuffer, NoTable, NoNetwork, TooSmall}
use Rattle.table.specs.declared.Refusal.TheVariants.{BadCells, ShortAnswers, NotCanonical, TooManyRecords, ShortGains}

-- a success with its value, or a refusal
abbrev pub Answer : Type 0
Answer = Result ℕ Refusal

abbrev pub refusal_number : Refusal → ℕ
refusal_number BadLength = 1
refusal_number BadCheck = 2
refusal_number BadKind = 3
refusal_number BadInputs = 4
refusal_number BadOutputs = 5
refusal_number BadOrder = 6
refusal_number BadContent = 7
refusal_number NoRow = 8
refusal_number NoSuch = 9
refusal_number ShortBuffer = 10
refusal_number NoTable = 21
refusal_number NoNetwork = 22
refusal_number (TooSmall wanted) = 23
refusal_number BadCells = 24
refusal_number ShortAnswers = 31
refusal_number NotCanonical = 32
refusal_number TooManyRecords = 33
refusal_number ShortGains = 34

-- '23 adds the cells wanted'
abbrev pub cells_wanted : Refusal → ℕ
cells_wanted BadLength = 0
cells_wanted BadCheck = 0
cells_wanted BadKind = 0
cells_wanted BadInputs = 0
cells_wanted BadOutputs = 0
cells_wanted BadOrder = 0
cells_wanted BadContent = 0
cells_wanted NoRow = 0
cells_wanted NoSuch = 0
cells_wanted ShortBuffer = 0
cells_wanted NoTable = 0
cells_wanted NoNetwork = 0
cells_wanted (TooSmall wanted) = wanted
cells_wanted BadCells = 0
cells_wanted ShortAnswers = 0
cells_wanted NotCanonical = 0
cells_wanted TooManyRecords = 0
cells_wanted ShortGains = 0

abbrev pub number : Answer → ℕ
number (Ok v) = 0
number (Err refusal) = refusal_number refusal

-- 'A refusal answers its number and 0, but 23 adds the cells wanted'
abbrev pub value : Answer → ℕ
value (Ok v) = v
value (Err refusal) = cells_wanted refusal

-- the refusal where the test fails, else what follows
abbrev pub unless : {A : Type 0} → Bool → Refusal → Result A Refusal → Result A Refusal
unless ok refusal rest = cond ok rest (Err refusal)

-- whether an answer is a success
abbrev pub done : Answer → Bool
done answer = is_ok answer

-- a refusal as it is, else what follows the success
abbrev pub unless_refused : {A B : Type 0} → Result A Refusal → Result B Refusal → Result B Refusal
unless_refused (Ok v) rest = rest
unless_refused (Err refusal) rest = Err refusal

-- a call that changes the state answers a value and leaves a state, or a refusal alone
abbrev pub Outcome : Type 0
Outcome = Result Done Refusal

-- the outcome of a call with this answer, which leaves this state where it is done
abbrev pub outcome_of : Answer → State → Outcome
outcome_of (Ok v) s = Ok (record { value = v; state = s })
outcome_of (Err refusal) s = Err refusal

-- the answer of an outcome
abbrev pub answer_of : Outcome → Answer
answer_of (Ok d) = Ok d.value
answer_of (Err refusal) = Err refusal

-- the state after a call: 'A refusal leaves the state', the one before
abbrev pub state_after : State → Outcome → State
state_after s (Ok d) = d.state
state_after s (Err refusal) = s

-- the first refusal among the answers of k, k + 1 and so on, `left` of them; else a success
unfoldable pub first_refusal : (ℕ → Answer) → ℕ → ℕ → Answer
first_refusal f k zero = Ok 0
first_refusal f k (suc left) = unless_refused (f k) (first_refusal f (suc k) left)
