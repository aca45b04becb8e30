-- `sift::moves::moves` meets its contract. Each refusal by its test, and what is left by the report.
-- Assumes nothing.
use mathlib.Core.Path.{◌≡◌, sym, ◌∙◌}
use mathlib.Core.Bool.{true, not}
use native.Mathlib.Nat.{mul-le-mul}
use native.Mathlib.Omega.{arith}
use borrow.Author.Tests.{not-true, not-false}
use Rattle.lists.proofs.Bools.{to-T}
use Rattle.table.specs.State.{stage_of, is_nothing}
use Rattle.table.proofs.Held.{few-inputs}
use Rattle.fill.specs.Calls.{enough}
use Rattle.sift.proofs.Reporting.MovesOutcome.{moves-short, moves-no-table, moves-few, moves-done}
use Rattle.sift.proofs.moves.moves.Goals as goal
use Rattle.sift.proofs.moves.moves.Goals.{Else-not-holds_table}

pub returns-then-not-lent_enough : goal.returns-then-not-lent_enough
returns-then-not-lent_enough c =
    let a = c.args in
    let m = c.lent_enough in
    let all = moves-short a.state a.gains.now a.values.now a.care.now a.work.now
    (sym m.ensures ∙ not-true m.result c.if-not-lent_enough.true-raw) in
    record { answer = all.0; gains = all.1.0; work = all.1.1.0; reported = all.1.1.1 }

pub returns-then-not-holds_table : goal.returns-then-not-holds_table
returns-then-not-holds_table c =
    let a = c.args in
    let m = c.lent_enough in
    let h = c.holds_table in
    let all = moves-no-table a.state a.gains.now a.values.now a.care.now a.work.now
    (sym m.ensures ∙ not-false m.result c.if-not-lent_enough.false-raw)
    (sym h.ensures ∙ not-true h.result c.if-not-holds_table.true-raw) in
    record { answer = all.0; gains = all.1.0; work = all.1.1.0; reported = all.1.1.1 }

long : (k : Else-not-holds_table) → let a = k.args in enough a.values.now a.care.now a.work.now ≡ true
long k = let m = k.lent_enough in sym m.ensures ∙ not-false m.result k.if-not-lent_enough.false-raw

held : (k : Else-not-holds_table) → not (is_nothing (stage_of k.args.state)) ≡ true
held k = let h = k.holds_table in sym h.ensures ∙ not-false h.result k.if-not-holds_table.false-raw

pub overflow_mul-n : goal.overflow_mul-n
overflow_mul-n c =
    let s = c.args.state in
    let few = few-inputs s (to-T (held (goal.at.overflow_mul-n c).Else-not-holds_table)) in
    omega (arith, mul-le-mul few few)

pub returns-then-gains-n : goal.returns-then-gains-n
returns-then-gains-n c =
    let a = c.args in
    let all = moves-few a.state a.gains.now a.values.now a.care.now a.work.now
    (long (goal.at.returns-then-gains-n c).Else-not-holds_table)
    (held (goal.at.returns-then-gains-n c).Else-not-holds_table) c.if-gains-n.true in
    record { answer = all.0; gains = all.1.0; work = all.1.1.0; reported = all.1.1.1 }

pub returns : goal.returns
returns c =
    let a = c.args in
    let r = c.report in
    let all = moves-done a.state a.gains.now a.values.now a.care.now a.work.now
    (long (goal.at.returns c).Else-not-holds_table) (held (goal.at.returns c).Else-not-holds_table)
    r.new.gains r.ensures.gains c.if-gains-n.false r.new.work r.ensures.work in
    record { answer = all.0; gains = all.1.0; work = all.1.1.0; reported = all.1.1.1 }
