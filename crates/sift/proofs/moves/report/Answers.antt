use borrow.Author.Rules.{rules}
use mathlib.Core.Path.{◌≡◌, refl, sym, ap, ◌∙◌}
use Prim.Native.Nat.{◌+◌, ◌*◌, ◌-◌, ◌^◌, ◌≤◌, ◌<◌}
use native.Mathlib.Omega.{arith}
use borrow.Rule.Slice.PartMut.{mid_len, same_len_mid}
use lib.ListN.{length, take, drop}
use Rattle.table.specs.State.{order_of}
use Rattle.table.proofs.Held.{held-heading}
use Rattle.fill.specs.Work.{zero_work}
use Rattle.fill.specs.Calls.{held_table}
use Rattle.sift.proofs.Trying.CountSucceeds.{counted-work, levels-counted, counted-counts, counted-cost, enough-again, zero-still}
use Rattle.sift.proofs.Reporting.Report.{row_room, no_row, next_row, all-rows}
use Rattle.sift.proofs.moves.report.Goals as goal
use Rattle.sift.proofs.moves.report.Goals.{After-count_levels, In-loop-v}

-- what the count left
zeroed : (k : After-count_levels) → k.count_levels.new.work ≡ zero_work k.args.work.now
zeroed k =
    let a = k.args in
    k.count_levels.ensures.work ∙ counted-work a.state a.values.now a.care.now a.work.now k.requires.enough k.requires.held

pub unwrap-levels-requires : goal.unwrap-levels-requires
unwrap-levels-requires c =
    let a = c.args in
    levels-counted a.state a.values.now a.care.now a.work.now c.requires.enough c.requires.held c.count_levels.result
    c.count_levels.ensures.levels

pub invariant_of-table : goal.invariant_of-table
invariant_of-table c =
    let a = c.args in
    record {
      heading = held-heading a.state c.requires.held;
      counted = counted-counts a.state a.values.now a.care.now a.work.now c.requires.enough c.requires.held c.unwrap-levels.result
          (sym c.count_levels.ensures.levels ∙ c.unwrap-levels.ensures);
    }

-- a variable's row lies within the list
room : (c : In-loop-v)
    → let l = c.loop-v in
    let n = c.args.state.n in
    n * l.v + n ≤ length l.gains
room c =
    let a = c.args in
    let l = c.loop-v in
    omega (
      arith,
      row_room a.state.n l.v c.loop-v-test.true,
      c.requires.room,
      l.invariant.1.1.0,
    )

row-length : (c : In-loop-v)
    → let l = c.loop-v in
    let n = c.args.state.n in
    length (take ((n * l.v + n) - n * l.v) (drop (n * l.v) l.gains)) ≡ (n * l.v + n) - n * l.v
row-length c =
    let n = c.args.state.n in
    mid_len (n * c.loop-v.v) (n * c.loop-v.v + n) c.loop-v.gains (room c)

pub report_variable-requires : goal.report_variable-requires
report_variable-requires c =
    let a = c.args in
    let vs = a.values.now in
    let cs = a.care.now in
    let l = c.loop-v in record {
      enough = enough-again vs cs a.work.now l.work c.requires.enough (ap length l.invariant.1.1.1 ∙ c.count_levels.auto.work);
      variable = (c.loop-v-test.true, omega (arith, row-length (goal.at.report_variable-requires c).In-loop-v));
      present = counted-cost a.state vs cs a.work.now c.requires.enough c.requires.held c.unwrap-levels.result
          (sym c.count_levels.ensures.levels ∙ c.unwrap-levels.ensures);
    }

pub loop-v-preserved : goal.loop-v-preserved
loop-v-preserved c =
    let a = c.args in
    let n = a.state.n in
    let t = held_table a.state a.values.now a.care.now in
    let l = c.loop-v in
    let r = c.report_variable in
    let row = r.new.row in
    let e = next_row t (order_of a.state) a.gains.now l.v l.gains row ((n * l.v + n) - n * l.v) l.invariant.1.0
    (omega (arith, row-length (goal.at.loop-v-preserved c).In-loop-v)) r.ensures.row in (
      omega (arith, c.loop-v-test.true),
      (
        e,
        (
          same_len_mid (n * l.v) ((n * l.v + n) - n * l.v) l.gains row r.auto.row ∙ l.invariant.1.1.0,
          zero-still a.work.now l.work r.new.work
              (l.invariant.1.1.1 ∙ zeroed (goal.at.loop-v-preserved c).After-count_levels) r.ensures.work
              ∙ sym (zeroed (goal.at.loop-v-preserved c).After-count_levels),
        ),
      ),
    )

pub returns : goal.returns
returns c =
    let a = c.args in
    let l = c.loop-v in record {
      gains = all-rows (held_table a.state a.values.now a.care.now) (order_of a.state) a.gains.now l.v l.gains
          (omega (arith, l.invariant.0, c.loop-v-test.false)) l.invariant.1.0;
      work = l.invariant.1.1.1 ∙ zeroed (goal.at.returns c).After-count_levels;
    }
