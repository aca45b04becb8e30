-- Request 2.4 of document 02, several logs: 'Several logs may be added one after the other; with the same r and none refused, any sequence
-- of them leaves the same counts and care'; and so does one log of all their rows.
-- Assumes nothing.
use Rattle.std.specs.Prelude.{◌≡◌, Bool, true, ◌&&◌, ℕ, T}
use mathlib.Core.List.{List, [], ◌∷◌, flatten, Permᴰ}
use Rattle.table.specs.declared.State.{State}
use Rattle.table.specs.Answer.{done, state_after}
use Rattle.rowlog.specs.Log.{log_answer, log_outcome, log_counts, log_care}

-- what a log finds, and what it leaves
pub record Logged : Type 0 where
  pub state : State
  pub counts : List ℕ
  pub care : List ℕ

-- a log of these rows is not refused
abbrev pub accepted : List ℕ → Logged → Bool
accepted rows found = done (log_answer found.state rows found.counts found.care)

-- and what it leaves, where r is the least
abbrev pub logged : ℕ → List ℕ → Logged → Logged
logged least rows found =
    record {
      state = state_after found.state (log_outcome found.state rows found.counts found.care);
      counts = log_counts found.state rows found.counts found.care;
      care = log_care found.state rows least found.counts found.care;
    }

-- 'added one after the other', each on what the one before it left
abbrev pub one_by_one : ℕ → List (List ℕ) → Logged → Logged
one_by_one least [] found = found
one_by_one least (rows ∷ logs) found = one_by_one least logs (logged least rows found)

abbrev pub none_refused : ℕ → List (List ℕ) → Logged → Bool
none_refused least [] found = true
none_refused least (rows ∷ logs) found = accepted rows found && none_refused least logs (logged least rows found)

-- every list of logs and every rearrangement of it (`List.Permᴰ` is the library's, of permutations): where none is refused in the one
-- sequence none is in the other, and the state, the counts and the care at the end are the same
abbrev pub AnySequence : Type 0
AnySequence =
    (least : ℕ) (logs others : List (List ℕ)) (found : Logged) → Permᴰ logs others → T (none_refused least logs found)
    → T (none_refused least others found) × (one_by_one least logs found ≡ one_by_one least others found)

-- one log of all the lists, one behind the other, is refused where one of the logs is, and else leaves what they leave. There is at least
-- one log: where there is none the care stays, and a log of no row makes it anew
abbrev pub OneLog : Type 0
OneLog =
    (least : ℕ) (rows : List ℕ) (logs : List (List ℕ)) (found : Logged)
    → (none_refused least (rows ∷ logs) found ≡ accepted (flatten (rows ∷ logs)) found)
    × (T (none_refused least (rows ∷ logs) found) → one_by_one least (rows ∷ logs) found ≡ logged least (flatten (rows ∷ logs)) found)
