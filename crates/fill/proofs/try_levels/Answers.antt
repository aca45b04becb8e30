-- `fill::try_levels` meets its contract, a law for each way out. Assumes nothing.
use Rattle.std.specs.Prelude.{Err}
use mathlib.Core.Path.{◌≡◌, refl, sym, ◌∙◌}
use mathlib.Core.Bool.{true, not}
use borrow.Author.Tests.{not-true, not-false}
use Rattle.lists.proofs.Bools.{to-T}
use Rattle.table.specs.declared.Refusal.TheVariants.{ShortBuffer, NoTable}
use Rattle.table.specs.State.{stage_of, is_nothing}
use Rattle.fill.proofs.Calls.TrialAnswers.{trials-values, trials-care, trials-work, trials-counts, trials-none, trials-done}
use Rattle.fill.proofs.Calls.TrialAnswers.{trials-zero, trials-refused, trials-tried}
use Rattle.fill.proofs.Lowered.TrialSizes.{trials-size, trial_sizes}
use Rattle.fill.proofs.try_levels.Goals as goal
use Rattle.fill.proofs.try_levels.Goals.{Else-not-holds_table}

pub returns-then-values-lt-PLANE : goal.returns-then-values-lt-PLANE
returns-then-values-lt-PLANE c =
    let a = c.args in
    let all = trials-refused a.state a.except a.values.now a.care.now a.counts.now a.work.now (Err ShortBuffer)
    (trials-values a.state a.except a.values.now a.care.now a.counts.now a.work.now
    (omega (trial_sizes, c.if-values-lt-PLANE.true))) refl in record { answer = all.0; counts = all.1.0; work = all.1.1 }

pub returns-then-care-lt-PLANE : goal.returns-then-care-lt-PLANE
returns-then-care-lt-PLANE c =
    let a = c.args in
    let all = trials-refused a.state a.except a.values.now a.care.now a.counts.now a.work.now (Err ShortBuffer)
    (trials-care a.state a.except a.values.now a.care.now a.counts.now a.work.now
    (omega (trial_sizes, c.if-care-lt-PLANE.true))) refl in record { answer = all.0; counts = all.1.0; work = all.1.1 }

pub returns-then-work-lt-WORK : goal.returns-then-work-lt-WORK
returns-then-work-lt-WORK c =
    let a = c.args in
    let all = trials-refused a.state a.except a.values.now a.care.now a.counts.now a.work.now (Err ShortBuffer)
    (trials-work a.state a.except a.values.now a.care.now a.counts.now a.work.now
    (omega (trial_sizes, c.if-work-lt-WORK.true))) refl in record { answer = all.0; counts = all.1.0; work = all.1.1 }

pub returns-then-counts-lt-COUNTS : goal.returns-then-counts-lt-COUNTS
returns-then-counts-lt-COUNTS c =
    let a = c.args in
    let all = trials-refused a.state a.except a.values.now a.care.now a.counts.now a.work.now (Err ShortBuffer)
    (trials-counts a.state a.except a.values.now a.care.now a.counts.now a.work.now
    (omega (trial_sizes, c.if-counts-lt-COUNTS.true))) refl in record { answer = all.0; counts = all.1.0; work = all.1.1 }

pub returns-then-not-holds_table : goal.returns-then-not-holds_table
returns-then-not-holds_table c =
    let a = c.args in
    let all = trials-refused a.state a.except a.values.now a.care.now a.counts.now a.work.now (Err NoTable)
    (trials-none a.state a.except a.values.now a.care.now a.counts.now a.work.now
    (omega (trial_sizes, c.if-values-lt-PLANE.false)) (omega (trial_sizes, c.if-care-lt-PLANE.false))
    (omega (trial_sizes, c.if-work-lt-WORK.false)) (omega (trial_sizes, c.if-counts-lt-COUNTS.false))
    (sym c.holds_table.ensures ∙ not-true c.holds_table.result c.if-not-holds_table.true-raw)) refl in record
    { answer = all.0; counts = all.1.0; work = all.1.1 }

held : (c : Else-not-holds_table)
    → not (is_nothing (stage_of c.args.state)) ≡ true
held c = sym c.holds_table.ensures ∙ not-false c.holds_table.result c.if-not-holds_table.false-raw

pub try_held-requires : goal.try_held-requires
try_held-requires c =
    record {
      has_table = to-T (held (goal.at.try_held-requires c).Else-not-holds_table);
      long_buffers = (omega (trial_sizes, c.if-work-lt-WORK.false), omega (trial_sizes, c.if-counts-lt-COUNTS.false));
    }

pub returns : goal.returns
returns c =
    let a = c.args in
    let t = trials-tried a.state a.except a.values.now a.care.now a.counts.now a.work.now
    (trials-done a.state a.except a.values.now a.care.now a.counts.now a.work.now
    (omega (trial_sizes, c.if-values-lt-PLANE.false)) (omega (trial_sizes, c.if-care-lt-PLANE.false))
    (omega (trial_sizes, c.if-work-lt-WORK.false)) (omega (trial_sizes, c.if-counts-lt-COUNTS.false))
    (held (goal.at.returns c).Else-not-holds_table)) in
    let q = trials-zero 20480 a.work.now c.try_held.new.work c.zero.new.l (sym trials-size)
    c.try_held.ensures.behind c.zero.ensures in record {
      answer = t.0;
      counts = c.try_held.ensures.counts ∙ t.1.0;
      work = q ∙ t.1.1;
    }
