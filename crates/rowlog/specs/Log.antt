-- Request 2.4 of document 02, free rows from the floor's record: 10, 21, 10, 8, 33, then the counts as the rows raise them and the
-- care that they give.
-- Assumes nothing.
use Rattle.std.specs.Prelude.{cond, not, ◌&&◌, List, [], ◌∷◌, ℕ, ◌+◌, ◌*◌, ◌%◌, ◌^◌, eqb, ltb, leb, length, get_or, Ok}
use Rattle.lists.specs.Lists.{all}
use Rattle.lists.specs.Bits.{digit, packed}
use Rattle.lists.specs.Sums.{sum_below}
use Rattle.lists.specs.Written.{over}
use Rattle.diagram.specs.Table.{Table}
use Rattle.block.specs.Bits.{stream_bit}
use Rattle.table.specs.Answer.{Answer, Outcome, outcome_of}
use Rattle.table.specs.declared.Refusal.TheVariants.{ShortBuffer, NoTable, NoRow, TooManyRecords}
use Rattle.table.specs.declared.State.{State}
use Rattle.table.specs.Answer.{unless, done}
use Rattle.table.specs.State.{stage_of, is_nothing, reordered_state}
use Rattle.table.specs.Calls.{plane_size}

-- 'exceed 4,294,967,295'
abbrev pub most_records : ℕ
most_records = 4294967295

-- the times a row is in a list
abbrev pub times : ℕ → List ℕ → ℕ
times row [] = 0
times row (x ∷ xs) = digit (eqb row x) + times row xs

-- 'records read so far means their sum', of the 2ⁿ counts
abbrev pub records_of : State → List ℕ → ℕ
records_of s counts = sum_below (λ row. get_or counts row 0) (2 ^ s.n)

-- 'Each count rises by exactly the times its row is in the list; seen means the count so reached'
abbrev pub seen : List ℕ → List ℕ → ℕ → ℕ
seen rows counts row = get_or counts row 0 + times row rows

-- 'The counts are lent, 2ⁿ of them, else 10 after 21'; 'A logged row out of range gives 8 with nothing counted'; '33, the records read
-- so far and the new ones together exceed 4,294,967,295, checked after 8'
unfoldable pub log_answer : State → List ℕ → List ℕ → List ℕ → Answer
log_answer s rows counts care =
    unless (leb plane_size (length care)) ShortBuffer
    (unless (not (is_nothing (stage_of s))) NoTable
    (unless (leb (2 ^ s.n) (length counts)) ShortBuffer
    (unless (all (λ row. ltb row (2 ^ s.n)) rows) NoRow
    (unless (leb (records_of s counts + length rows) most_records) TooManyRecords (Ok 0)))))

-- 'The stage becomes table'; the order is as it was
unfoldable pub log_outcome : State → List ℕ → List ℕ → List ℕ → Outcome
log_outcome s rows counts care = outcome_of (log_answer s rows counts care) (reordered_state s s.order)

unfoldable pub log_counts : State → List ℕ → List ℕ → List ℕ → List ℕ
log_counts s rows counts care = cond (done (log_answer s rows counts care)) (over (seen rows counts) (2 ^ s.n) counts) counts

-- byte i of the care: 'a row is cared for all outputs if seen at least r times, else free'; past the stream all bits are zero
unfoldable pub logged_byte : State → List ℕ → ℕ → List ℕ → ℕ → ℕ
logged_byte s rows least counts i =
    packed 8 (λ b. ltb (8 * i + b) (s.m * 2 ^ s.n) && leb least (seen rows counts ((8 * i + b) % 2 ^ s.n)))

unfoldable pub log_care : State → List ℕ → ℕ → List ℕ → List ℕ → List ℕ
log_care s rows least counts care =
    cond (done (log_answer s rows counts care)) (over (logged_byte s rows least counts) plane_size care) care

-- 'the table under the new care', of any values lent: a row is cared at every output where it is seen at least r times
abbrev pub logged_table : State → List ℕ → List ℕ → ℕ → List ℕ → Table
logged_table s values rows least counts =
    record {
      n = s.n;
      m = s.m;
      row = λ j row. record { value = stream_bit values (j * 2 ^ s.n + row); care = leb least (seen rows counts row) };
    }
