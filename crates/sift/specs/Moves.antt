-- What a report of all moves answers and leaves (document 02, 2.8).
-- Assumes nothing.
use Rattle.std.specs.Prelude.{◌≡◌, cond, not, List, ℕ, ◌+◌, ◌*◌, ◌<◌, eqb, leb, ℤ, pos, neg_ℤ, ◌-ℤ◌, length, get_or, ◌≤ℤ◌, Ok}
use Rattle.lists.specs.Lists.{index}
use Rattle.lists.specs.Written.{over}
use Rattle.diagram.specs.Orders.Moves.{gain_at, Smallest, MovedLeast}
use Rattle.table.specs.Answer.{Answer}
use Rattle.table.specs.declared.Refusal.TheVariants.{ShortBuffer, NoTable, ShortGains}
use Rattle.table.specs.declared.State.{State}
use Rattle.table.specs.Answer.{value, unless, done}
use Rattle.table.specs.State.{order_of, stage_of, is_nothing}
use Rattle.fill.specs.Work.{zero_work}
use Rattle.fill.specs.Calls.{held_table, enough, count_answer}
use Rattle.sift.specs.Calls.{sift_answer}

-- moves: 10, 21, then 34, 'the lent list has fewer than n × n entries'
unfoldable pub moves_answer : State → List ℤ → List ℕ → List ℕ → List ℕ → Answer
moves_answer s gains values care work =
    unless (enough values care work) ShortBuffer
    (unless (not (is_nothing (stage_of s))) NoTable (unless (leb (s.n * s.n) (length gains)) ShortGains (Ok 0)))

-- 'The report fills a lent list, n × n entries, entry n × input + place, the rest untouched'; as found after a refusal
unfoldable pub moves_gains : State → List ℤ → List ℕ → List ℕ → List ℕ → List ℤ
moves_gains s gains values care work =
    cond (done (moves_answer s gains values care work)) (over (gain_at (held_table s values care) (order_of s)) (s.n * s.n) gains) gains

-- the work buffer is zero after a success, as found after a refusal
unfoldable pub moves_work : State → List ℤ → List ℕ → List ℕ → List ℕ → List ℕ
moves_work s gains values care work = cond (done (moves_answer s gains values care work)) (zero_work work) work

-- in a report, what variable v at level p would bring
abbrev pub entry : State → List ℤ → ℕ → ℕ → ℤ
entry s gains v p = get_or gains (s.n * v + p) (pos 0)

-- 'Cells now means a fresh count under the present order'
abbrev pub cells_now : State → List ℕ → List ℕ → List ℕ → ℕ
cells_now s values care work = value (count_answer s values care work)

-- what a report that is done owes, of the list it leaves, by what a count and a sift of the same table answer
pub record Reported (s : State) (values care work : List ℕ) (gains : List ℤ) : Type 0 where
  -- 'Staying in place reads exactly 0'
  pub stays : (v : ℕ) → v < s.n → entry s gains v (index eqb v (order_of s)) ≡ pos 0
  -- 'The smallest entry for an input is its sift answer minus the cells now'
  pub smallest : (v : ℕ) → v < s.n
      → Smallest s.n (entry s gains v) (pos (value (sift_answer s v values care work)) -ℤ pos (cells_now s values care work))
  -- no move saves more cells than there are
  pub lowest : (v p : ℕ) → v < s.n → p < s.n → neg_ℤ (pos (cells_now s values care work)) ≤ℤ entry s gains v p
  -- demand 3: no diagram under the moved order has fewer cells than those now and the entry
  pub least : (v p : ℕ) → v < s.n → p < s.n → MovedLeast (held_table s values care) (order_of s) v p (entry s gains v p)
