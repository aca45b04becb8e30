-- `rowlog::log::log_rows` meets its contract: a refusal leaves all as found, and where none is due the rows are counted and cared for.
-- Assumes nothing.
use mathlib.Core.Path.{◌≡◌, sym, ap, ◌∙◌}
use Prim.Native.Nat.{ℕ, ◌*◌, ◌%◌, ◌^◌, ◌≤◌}
use native.Mathlib.Omega.{arith}
use lib.ListN.{length, get_or}
use Rattle.std.proofs.lemmas.Result.{err_from_is_err_and}
use Rattle.lists.specs.Written.{over}
use Rattle.lists.proofs.Bools.{to-T}
use Rattle.diagram.specs.Networks.Bound.{most_variables}
use Rattle.table.specs.declared.State.{State}
use Rattle.table.specs.Answer.{done}
use Rattle.table.specs.State.{order_of}
use Rattle.table.specs.Calls.{plane_size}
use Rattle.table.proofs.Files.Answers.{shifted-out}
use Rattle.table.proofs.Held.{held-heading, heading-inputs, few-outputs}
use Rattle.rowlog.specs.Inner.Care.{counted_byte}
use Rattle.rowlog.proofs.Counting.{all-more-below, seen_most, row_within}
use Rattle.rowlog.proofs.Answered.{Passed, passed, log-refused, log-done}
use Rattle.rowlog.proofs.log.log_rows.Goals as goal
use Rattle.rowlog.proofs.log.log_rows.Goals.{In_ok-value}

-- past the refusals
abbrev state : (c : In_ok-value) → State
state c = c.args.state

good : (c : In_ok-value) → let a = c.args in
    Passed a.state a.rows.now a.counts.now a.care.now
good c =
    let a = c.args in
    passed a.state a.rows.now a.counts.now a.care.now
    (to-T (ap done (sym c.log_answer.ensures ∙ c.in_ok-value.was)))

few : (c : In_ok-value) → (state c).n ≤ most_variables
few c = heading-inputs (state c).n (state c).m (order_of (state c)) (held-heading (state c) (good c).held)

stream_end : (c : In_ok-value) → (state c).m * 2 ^ (state c).n % 18446744073709551616 ≡ (state c).m * 2 ^ (state c).n
stream_end c = shifted-out (state c).n (state c).m (few c) (few-outputs (state c) (good c).held)

pub returns-in_err-value : goal.returns-in_err-value
returns-in_err-value c =
    let a = c.args in
    let p = err_from_is_err_and c.from_residual.result c.from_residual.ensures.1 in
    let all = log-refused a.state a.rows.now a.counts.now a.care.now a.least c.in_err-value.field-0.0
    (sym c.log_answer.ensures ∙ c.in_err-value.was) in
    rw (p.1, p.2) record { outcome = all.0; counts = all.1.0; care = all.1.1 }

pub count_rows-requires : goal.count_rows-requires
count_rows-requires c =
    let a = c.args in
    let g = good (goal.at.count_rows-requires c).In_ok-value in
    let n = a.state.n in record {
      rows_within = all-more-below (2 ^ n) (length a.counts.now) a.rows.now g.enough g.known;
      counts_fit = λ j h. seen_most (2 ^ n) (get_or a.rows.now j 0) a.rows.now a.counts.now
          (row_within a.rows.now a.counts.now j h (2 ^ n) g.known) g.room;
    }

pub overflow_shl-state : goal.overflow_shl-state
overflow_shl-state c =
    omega (arith, few (goal.at.overflow_shl-state c).In_ok-value)

pub write_care-requires : goal.write_care-requires
write_care-requires c =
    (few (goal.at.write_care-requires c).In_ok-value, (good (goal.at.write_care-requires c).In_ok-value).long)

pub returns : goal.returns
returns c =
    let a = c.args in
    let x = c.count_rows in
    let w = c.write_care in
    let all = log-done a.state a.rows.now a.counts.now a.care.now a.least c.in_ok-value.value
    (sym c.log_answer.ensures ∙ c.in_ok-value.was) _ _ x.ensures
    (w.ensures
    ∙ ap (λ (k : ℕ). over (counted_byte x.new.counts a.least a.state.n k) plane_size a.care.now)
    (stream_end (goal.at.returns c).In_ok-value)) in record { outcome = all.0; counts = all.1.0; care = all.1.1 }
