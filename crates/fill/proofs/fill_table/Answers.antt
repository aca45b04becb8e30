-- `fill::fill_table` meets its contract, a law for each way out. Assumes nothing.
use mathlib.Core.Path.{◌≡◌, sym, ap, ◌∙◌}
use mathlib.Core.Bool.{true, not}
use Rattle.std.specs.Prelude.{Ok}
use Rattle.lists.proofs.Bools.{to-T}
use Rattle.table.specs.declared.Refusal.TheVariants.{ShortBuffer, NoTable}
use Rattle.table.specs.State.{stage_of, is_nothing}
use Rattle.fill.proofs.Buffers.Sizes.{sizes}
use Rattle.fill.proofs.Calls.Answers.{short-values, short-care, short-work, no_table, links-filled, links-refused}
use Rattle.fill.proofs.fill_table.Goals as goal
use Rattle.fill.proofs.fill_table.Goals.{Then-holds_table}

pub returns-then-values-lt-PLANE : goal.returns-then-values-lt-PLANE
returns-then-values-lt-PLANE c =
    let a = c.args in
    let r = links-refused a.state a.values.now a.care.now a.work.now ShortBuffer
    (short-values a.state a.values.now a.care.now a.work.now (omega (sizes, c.if-values-lt-PLANE.true))) in
    record { levels = r.0; work = r.1 }

pub returns-then-care-lt-PLANE : goal.returns-then-care-lt-PLANE
returns-then-care-lt-PLANE c =
    let a = c.args in
    let r = links-refused a.state a.values.now a.care.now a.work.now ShortBuffer
    (short-care a.state a.values.now a.care.now a.work.now (omega (sizes, c.if-care-lt-PLANE.true))) in
    record { levels = r.0; work = r.1 }

pub returns-then-work-lt-WORK : goal.returns-then-work-lt-WORK
returns-then-work-lt-WORK c =
    let a = c.args in
    let r = links-refused a.state a.values.now a.care.now a.work.now ShortBuffer
    (short-work a.state a.values.now a.care.now a.work.now (omega (sizes, c.if-work-lt-WORK.true))) in
    record { levels = r.0; work = r.1 }

pub returns-else-holds_table : goal.returns-else-holds_table
returns-else-holds_table c =
    let a = c.args in
    let r = links-refused a.state a.values.now a.care.now a.work.now NoTable
    (no_table a.state a.values.now a.care.now a.work.now (omega (sizes, c.if-values-lt-PLANE.false))
    (omega (sizes, c.if-care-lt-PLANE.false)) (omega (sizes, c.if-work-lt-WORK.false))
    (sym c.holds_table.ensures ∙ c.if-holds_table.false)) in
    record { levels = r.0; work = r.1 }

held : (c : Then-holds_table)
    → not (is_nothing (stage_of c.args.state)) ≡ true
held c = sym c.holds_table.ensures ∙ c.if-holds_table.true

pub fill_held-requires : goal.fill_held-requires
fill_held-requires c =
    record {
      t = to-T (held (goal.at.fill_held-requires c).Then-holds_table);
      work_size_in_bounds = omega (sizes, c.if-work-lt-WORK.false);
    }

pub returns-then-holds_table : goal.returns-then-holds_table
returns-then-holds_table c =
    let a = c.args in
    let r = links-filled a.state a.values.now a.care.now a.work.now
    (omega (sizes, c.if-values-lt-PLANE.false)) (omega (sizes, c.if-care-lt-PLANE.false)) (omega (sizes, c.if-work-lt-WORK.false))
    (held (goal.at.returns-then-holds_table c).Then-holds_table) in record {
      levels = ap Ok c.fill_held.ensures.levels ∙ r.0;
      work = c.fill_held.ensures.work ∙ r.1;
    }
