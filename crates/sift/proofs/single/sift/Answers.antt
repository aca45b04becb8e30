-- `sift::single::sift` meets its contract. Each refusal by its test, and the outcome by the best level found.
-- Assumes nothing.
use mathlib.Core.Path.{sym, ◌∙◌}
use mathlib.Core.Bool.{not}
use Prim.Native.Nat.{◌<◌}
use borrow.Author.Tests.{not-true, not-false}
use lib.Dec.{T}
use Rattle.lists.proofs.Bools.{of_T, to-T}
use Rattle.table.specs.State.{order_of, stage_of, is_nothing}
use Rattle.table.proofs.Held.{held-heading, few-inputs, ordered}
use Rattle.fill.specs.Calls.{held_table, enough}
use Rattle.sift.proofs.Trying.BestLevel.{best-below}
use Rattle.sift.proofs.Trying.CountSucceeds.{counted-work, levels-counted, counted-counts, enough-again, zero-still}
use Rattle.sift.proofs.Trying.SiftedCounts.{sifted-best}
use Rattle.sift.proofs.Sifting.SiftOutcome.{sift-short, sift-no-table, sift-no-variable, sift-done}
use Rattle.sift.proofs.single.sift.Goals as goal
use Rattle.sift.proofs.single.sift.Goals.{After-count_levels}

pub returns-then-not-lent_enough : goal.returns-then-not-lent_enough
returns-then-not-lent_enough c =
    let a = c.args in
    let vs = a.values.now in
    let cs = a.care.now in
    let m = c.lent_enough in
    let all = sift-short a.state a.variable vs cs a.work.now
    (sym m.ensures ∙ not-true m.result c.if-not-lent_enough.true-raw) in
    record { outcome = all.0; work = all.1.0; demand = all.1.1.0; never_dearer = all.1.1.1 }

pub returns-then-not-holds_table : goal.returns-then-not-holds_table
returns-then-not-holds_table c =
    let a = c.args in
    let vs = a.values.now in
    let cs = a.care.now in
    let m = c.lent_enough in
    let h = c.holds_table in
    let all = sift-no-table a.state a.variable vs cs a.work.now
    (sym m.ensures ∙ not-false m.result c.if-not-lent_enough.false-raw)
    (sym h.ensures ∙ not-true h.result c.if-not-holds_table.true-raw) in
    record { outcome = all.0; work = all.1.0; demand = all.1.1.0; never_dearer = all.1.1.1 }

pub returns-then-n-variable : goal.returns-then-n-variable
returns-then-n-variable c =
    let a = c.args in
    let vs = a.values.now in
    let cs = a.care.now in
    let m = c.lent_enough in
    let h = c.holds_table in
    let all = sift-no-variable a.state a.variable vs cs a.work.now
    (sym m.ensures ∙ not-false m.result c.if-not-lent_enough.false-raw)
    (sym h.ensures ∙ not-false h.result c.if-not-holds_table.false-raw) c.if-n-variable.true in
    record { outcome = all.0; work = all.1.0; demand = all.1.1.0; never_dearer = all.1.1.1 }

long : (k : After-count_levels) → let a = k.args in T (enough a.values.now a.care.now a.work.now)
long k =
    let m = k.lent_enough in
    to-T (sym m.ensures ∙ not-false m.result k.if-not-lent_enough.false-raw)

held : (k : After-count_levels) → T (not (is_nothing (stage_of k.args.state)))
held k =
    let h = k.holds_table in
    to-T (sym h.ensures ∙ not-false h.result k.if-not-holds_table.false-raw)

below : (k : After-count_levels) → k.args.variable < k.args.state.n
below k = k.if-n-variable.false

pub unwrap-levels-requires : goal.unwrap-levels-requires
unwrap-levels-requires c =
    let a = c.args in
    let k = (goal.at.unwrap-levels-requires c).After-count_levels in
    levels-counted a.state a.values.now a.care.now a.work.now (long k) (held k) c.count_levels.result c.count_levels.ensures.levels

pub invariant_of-table : goal.invariant_of-table
invariant_of-table c =
    let a = c.args in
    let k = (goal.at.invariant_of-table c).After-count_levels in
    record {
      heading = held-heading a.state (held k);
      counted = counted-counts a.state a.values.now a.care.now a.work.now (long k) (held k) c.unwrap-levels.result
          (sym c.count_levels.ensures.levels ∙ c.unwrap-levels.ensures);
    }

pub moved_to-after-requires : goal.moved_to-after-requires
moved_to-after-requires c =
    let a = c.args in
    let t = held_table a.state a.values.now a.care.now in
    let r = c.sift_one-found in record {
      few = few-inputs a.state (held (goal.at.moved_to-after-requires c).After-count_levels);
      order = ordered a.state (held (goal.at.moved_to-after-requires c).After-count_levels);
      levels = (
        below (goal.at.moved_to-after-requires c).After-count_levels,
        best-below t a.variable (order_of a.state) r.result.best
            (sifted-best t a.variable (order_of a.state) r.result r.ensures.sifted)
            (below (goal.at.moved_to-after-requires c).After-count_levels),
      );
    }

pub returns : goal.returns
returns c =
    let a = c.args in
    let vs = a.values.now in
    let cs = a.care.now in
    let r = c.sift_one-found in
    let o = c.moved_to-after in
    let all = sift-done a.state a.variable vs cs a.work.now (of_T (long (goal.at.returns c).After-count_levels))
    (of_T (held (goal.at.returns c).After-count_levels)) (below (goal.at.returns c).After-count_levels)
    r.result.best
    (sifted-best (held_table a.state vs cs) a.variable (order_of a.state) r.result r.ensures.sifted) o.result o.ensures
    c.reorder-left.result c.reorder-left.ensures r.new.work
    (zero-still a.work.now c.count_levels.new.work r.new.work
    (c.count_levels.ensures.work
    ∙ counted-work a.state vs cs a.work.now (long (goal.at.returns c).After-count_levels)
    (held (goal.at.returns c).After-count_levels)) r.ensures.work) in record
    { outcome = all.0; work = all.1.0; demand = all.1.1.0; never_dearer = all.1.1.1 }
