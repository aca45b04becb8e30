-- What a log leaves, row by row; and a log after another (document 02, 2.4): on what the first left, the second answers and leaves what
-- one log of both lists would, whichever is in front.
-- Assumes nothing.
use Rattle.std.specs.Prelude.{Ok}
use mathlib.Core.Path.{◌≡◌, sym, ap, ap₂, ◌∙◌, subst}
use mathlib.Core.Bool.{Bool, true, not, ◌&&◌, and_comm}
use mathlib.Core.List.{List, ◌++◌}
use Prim.Native.Nat.{ℕ, suc, ◌+◌, ◌*◌, ◌%◌, ◌^◌, ◌≤◌, ◌<◌}
use native.Mathlib.Nat.{mul-le-mul_right}
use native.Mathlib.Omega.{arith}
use borrow.Author.Tests.{lt-ltb, le-leb}
use lib.Dec.{T, ltb, leb}
use lib.ListN.{length, length-append}
use lib.Pow.{low}
use Rattle.lists.specs.Lists.{all}
use Rattle.lists.proofs.Bools.{of_T, and_l}
use Rattle.lists.proofs.Lists.Membership.{all-append-and}
use Rattle.lists.proofs.Written.Over.{length_over}
use Rattle.block.specs.Bits.{stream_bit}
use Rattle.table.specs.Answer.{Answer}
use Rattle.table.specs.declared.Refusal.TheVariants.{NoRow, TooManyRecords}
use Rattle.table.specs.declared.Stage.{Stage}
use Rattle.table.specs.declared.State.{State}
use Rattle.table.specs.Answer.{unless, done, state_after}
use Rattle.table.proofs.Outcomes.{outcome-state}
use Rattle.table.specs.State.{stage_of, is_nothing}
use Rattle.table.specs.Stream.{table_of}
use Rattle.table.specs.Calls.{plane_size}
use Rattle.table.proofs.Held.{held-heading, few_bits, stage-good}
use Rattle.table.proofs.Planes.PlaneBits.{packed-plane}
use Rattle.table.proofs.Planes.PlaneSize.{plane-size}
use Rattle.rowlog.specs.Log.{most_records, records_of, seen, log_answer, log_outcome, logged_byte, log_counts, log_care, logged_table}
use Rattle.rowlog.specs.Sequence.{Logged, accepted, logged}
use Rattle.rowlog.proofs.Answered.{Passed, passed, log-good}
use Rattle.rowlog.proofs.LogThen.{kept, counted, cared, counts-then, care-then, records-then, counts-turned, care-turned}

-- what a log that is done leaves

abbrev leaving : ℕ → List ℕ → Logged → Logged
leaving least rows found =
    record {
      state = kept found.state;
      counts = counted found.state rows found.counts;
      care = cared found.state rows least found.counts found.care;
    }

left : (least : ℕ) (rows : List ℕ) (found : Logged) → T (accepted rows found) → logged least rows found ≡ leaving least rows found
unfolding log_outcome log_counts log_care
left least rows found t =
    let d = of_T {b = accepted rows found} t in
    rw (d, outcome-state (log_answer found.state rows found.counts found.care) found.state (kept found.state) d)

-- 'a row is cared for all outputs if seen at least r times, else free', read off the care
pub care-logged : (s : State) (rows : List ℕ) (least : ℕ) (counts care : List ℕ) → T (done (log_answer s rows counts care))
    → (j row : ℕ) → j < s.m → row < 2 ^ s.n
    → stream_bit (log_care s rows least counts care) (j * 2 ^ s.n + row) ≡ leb least (seen rows counts row)
unfolding logged_byte
care-logged s rows least counts care t j row h k =
    let size = 2 ^ s.n in
    let x = j * size + row in
    let l : x < s.m * size = omega (arith, mul-le-mul_right {m = suc j} {n = s.m} size h) in
    let room = few_bits s (passed s rows counts care t).held in
    ap (λ (after : Logged). stream_bit after.care x) (left least rows (record { state = s; counts = counts; care = care }) t)
    ∙ packed-plane (λ y. ltb y (s.m * size) && leb least (seen rows counts (y % size))) care x (omega (arith, plane-size))
    ∙ ap₂ ◌&&◌ (lt-ltb x (s.m * size) l) (ap (λ (y : ℕ). leb least (seen rows counts y)) (low j s.n k))

-- what a log that is done leaves is its table, at every row of every output, whatever values are lent

module _ (s : State) (rows : List ℕ) (least : ℕ) (counts care : List ℕ) (t : T (done (log_answer s rows counts care))) where
  pub state-logged : state_after s (log_outcome s rows counts care) ≡ kept s
  state-logged = ap (λ (after : Logged). after.state) (left least rows (record { state = s; counts = counts; care = care }) t)

  pub row-logged : (values : List ℕ) (j row : ℕ) → j < s.m → row < 2 ^ s.n
      → (logged_table s values rows least counts).row j row ≡ (table_of s.n s.m values (log_care s rows least counts care)).row j row
  row-logged values j row h k = λ i. record {
    value = stream_bit values (j * 2 ^ s.n + row);
    care = sym (care-logged s rows least counts care t j row h k) i;
  }

-- the test of the rows, and the answer from that test on

abbrev known : State → List ℕ → Bool
known s rows = all (λ row. ltb row (2 ^ s.n)) rows

known-append : (s : State) (first second : List ℕ) → known s (first ++ second) ≡ known s first && known s second
known-append s first second = all-append-and (λ row. ltb row (2 ^ s.n)) first second

rows-answer : (s : State) (rows counts care : List ℕ) → plane_size ≤ length care → not (is_nothing (stage_of s)) ≡ true
    → 2 ^ s.n ≤ length counts
    → log_answer s rows counts care
    ≡ unless (known s rows) NoRow (unless (leb (records_of s counts + length rows) most_records) TooManyRecords (Ok 0))
unfolding log_answer
rows-answer s rows counts care long held enough =
    rw (le-leb plane_size (length care) long, held, le-leb (2 ^ s.n) (length counts) enough)

-- on what a log that is done leaves, another answers what one log of both would
answer-then : (s : State) (first second : List ℕ) (least : ℕ) (counts care : List ℕ) → Passed s first counts care
    → log_answer (kept s) second (counted s first counts) (cared s first least counts care) ≡ log_answer s (first ++ second) counts care
answer-then s first second least counts care p =
    let rows : known s second ≡ known s (first ++ second) =
    sym (known-append s first second ∙ ap (λ (b : Bool). b && known s second) (of_T {b = known s first} p.known)) in
    let records : records_of (kept s) (counted s first counts) + length second ≡ records_of s counts + length (first ++ second) =
    omega (arith, records-then s first counts p.known, length-append first second) in
    rows-answer (kept s) second (counted s first counts) (cared s first least counts care)
    (omega (arith, p.long, length_over (logged_byte s first least counts) plane_size care p.long))
    (ap (λ (stage : Stage). not (is_nothing stage)) (stage-good (kept s) (of_T (held-heading s p.held))))
    (omega (arith, p.enough, length_over (seen first counts) (2 ^ s.n) counts p.enough))
    ∙ ap₂ (λ (b : Bool) (k : ℕ). unless b NoRow (unless (leb k most_records) TooManyRecords (Ok 0))) rows records
    ∙ sym (rows-answer s (first ++ second) counts care p.long (of_T p.held) p.enough)

module _ (first second : List ℕ) (found : Logged) where
  -- a part of a log that is done is done
  pub part-accepted : T (accepted (first ++ second) found) → T (accepted first found)
  part-accepted t =
      let s = found.state in
      let counts = found.counts in
      let p = passed s (first ++ second) counts found.care t in
      subst (λ (a : Answer). T (done a))
      (log-good s first counts found.care p.long (of_T p.held) p.enough
      (of_T (and_l (known s first) (known s second) (subst T (known-append s first second) p.known)))
      (le-leb (records_of s counts + length first) most_records (omega (arith, p.room, length-append first second)))) tt

  -- one log of both lists is done and leaves the same with the one or the other in front

  pub turned-accepted : accepted (first ++ second) found ≡ accepted (second ++ first) found
  unfolding log_answer
  turned-accepted =
      let s = found.state in
      let rows : known s (first ++ second) ≡ known s (second ++ first) =
      known-append s first second ∙ and_comm (known s first) (known s second) ∙ sym (known-append s second first) in
      let long : length (first ++ second) ≡ length (second ++ first) =
      omega (arith, length-append first second, length-append second first) in
      rw (rows, long)

  module _ (least : ℕ) where
    pub turned : T (accepted (first ++ second) found) → logged least (first ++ second) found ≡ logged least (second ++ first) found
    turned t =
        left least (first ++ second) found t
        ∙ (λ i. record {
          state = kept found.state;
          counts = counts-turned found.state first second found.counts i;
          care = care-turned found.state first second found.counts least found.care i;
        })
        ∙ sym (left least (second ++ first) found (subst T turned-accepted t))

    -- after a first log that is done, a second is done where one log of both is, and leaves what that leaves
    module _ (t : T (accepted first found)) where
      pub then-accepted : accepted second (logged least first found) ≡ accepted (first ++ second) found
      then-accepted =
          ap (accepted second) (left least first found t)
          ∙ ap done (answer-then found.state first second least found.counts found.care
          (passed found.state first found.counts found.care t))

      pub together : T (accepted second (logged least first found))
          → logged least second (logged least first found) ≡ logged least (first ++ second) found
      together u =
          let e = left least first found t in
          ap (logged least second) e
          ∙ left least second (leaving least first found) (subst (λ (l : Logged). T (accepted second l)) e u)
          ∙ (λ i. record {
            state = kept found.state;
            counts = counts-then found.state first second found.counts i;
            care = care-then found.state first second found.counts least found.care i;
          })
          ∙ sym (left least (first ++ second) found (subst T then-accepted u))
