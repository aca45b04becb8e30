-- `swapping::swap::swap_checks` meets its contract: the checks one after the other, the last two by the test of a held network.
-- Assumes nothing.
use Rattle.std.specs.Prelude.{Ok}
use mathlib.Core.Path.{sym, ◌∙◌}
use borrow.Author.Tests.{not-true, not-false}
use Rattle.std.proofs.lemmas.Result.{err_from_is_err_and}
use Rattle.swapping.proofs.Checks.{short-work, short-roots, no-network, no_place, then-canonical}
use Rattle.swapping.proofs.swap.swap_checks.Goals as goal

pub returns-then-work-lt-WORK : goal.returns-then-work-lt-WORK
returns-then-work-lt-WORK c =
    let a = c.args in short-work a.state a.p a.work.now a.roots.now
    a.cells.now (Ok 0) c.if-work-lt-WORK.true

pub returns-then-roots-lt-ROOTS : goal.returns-then-roots-lt-ROOTS
returns-then-roots-lt-ROOTS c =
    let a = c.args in short-roots a.state a.p a.work.now a.roots.now
    a.cells.now (Ok 0) c.if-roots-lt-ROOTS.true

pub returns-then-not-holds_network : goal.returns-then-not-holds_network
returns-then-not-holds_network c =
    let a = c.args in
    no-network a.state a.p a.work.now a.roots.now a.cells.now c.if-work-lt-WORK.false c.if-roots-lt-ROOTS.false (Ok 0)
    (sym c.holds_network.ensures ∙ not-true c.holds_network.result c.if-not-holds_network.true-raw)

pub returns-in_err-swap : goal.returns-in_err-swap
returns-in_err-swap c =
    let p = err_from_is_err_and c.from_residual.result c.from_residual.ensures.1 in
    let a = c.args in
    let e = sym c.holds_network.ensures ∙ not-false c.holds_network.result c.if-not-holds_network.false-raw in
    rw (p.1, p.2)
    (no_place a.state a.p a.work.now a.roots.now a.cells.now c.if-work-lt-WORK.false c.if-roots-lt-ROOTS.false e (Ok 0)
    c.in_err-swap.field-0.0 (sym c.swap.ensures ∙ c.in_err-swap.was))

pub returns : goal.returns
returns c =
    let a = c.args in
    let e = sym c.holds_network.ensures ∙ not-false c.holds_network.result c.if-not-holds_network.false-raw in
    c.test_held.ensures
    ∙ then-canonical a.state a.p a.work.now a.roots.now a.cells.now c.if-work-lt-WORK.false c.if-roots-lt-ROOTS.false e
    c.in_ok-swap.field-0 (sym c.swap.ensures ∙ c.in_ok-swap.was)
