-- `sift::passes::pass` meets its contract. Each refusal by its test, and the outcome by the pass that was run.
-- Assumes nothing.
use mathlib.Core.Path.{sym, ◌∙◌}
use native.Mathlib.Omega.{arith}
use borrow.Author.Tests.{not-true, not-false}
use Rattle.lists.proofs.Bools.{to-T}
use Rattle.sift.proofs.Passing.PassOutcome.{pass-short, pass-no-table, pass-held}
use Rattle.sift.proofs.passes.pass.Goals as goal

pub returns-then-not-lent_enough : goal.returns-then-not-lent_enough
returns-then-not-lent_enough c =
    let a = c.args in
    let vs = a.values.now in
    let cs = a.care.now in
    let m = c.lent_enough in
    let all = pass-short a.state a.limit vs cs a.work.now
    (sym m.ensures ∙ not-true m.result c.if-not-lent_enough.true-raw) in
    record { outcome = all.0; work = all.1.0; demand = all.1.1.0; never_dearer = all.1.1.1 }

pub returns-then-not-holds_table : goal.returns-then-not-holds_table
returns-then-not-holds_table c =
    let a = c.args in
    let vs = a.values.now in
    let cs = a.care.now in
    let m = c.lent_enough in
    let h = c.holds_table in
    let all = pass-no-table a.state a.limit vs cs a.work.now
    (sym m.ensures ∙ not-false m.result c.if-not-lent_enough.false-raw)
    (sym h.ensures ∙ not-true h.result c.if-not-holds_table.true-raw) in
    record { outcome = all.0; work = all.1.0; demand = all.1.1.0; never_dearer = all.1.1.1 }

pub returns : goal.returns
returns c =
    let a = c.args in
    let vs = a.values.now in
    let cs = a.care.now in
    let m = c.lent_enough in
    let h = c.holds_table in
    let r = c.run-progress in
    let all = pass-held a.state a.limit vs cs a.work.now
    (sym m.ensures ∙ not-false m.result c.if-not-lent_enough.false-raw)
    (sym h.ensures ∙ not-false h.result c.if-not-holds_table.false-raw) r.result r.ensures.progress
    c.reorder-left.result c.reorder-left.ensures r.new.work r.ensures.work in
    record { outcome = all.0; work = all.1.0; demand = all.1.1.0; never_dearer = all.1.1.1 }
