-- `network_file::content::heading_byte` meets its contract, field by field.
-- Assumes nothing.
use mathlib.Core.Path.{sym, ap, ◌∙◌}
use Prim.Native.Nat.{ℕ, ◌-◌, ◌%◌}
use native.Mathlib.Omega.{arith}
use Rattle.block.specs.Numbers.{number_byte}
use Rattle.network_file.specs.File.{roots_at}
use Rattle.network_file.specs.Write.{heading_byte}
use Rattle.network_file.proofs.Writing.WrittenFields.{inputs-field, outputs-field, order-field, unused-field, count-field}
use Rattle.network_file.proofs.Writing.WrittenFields.{root-field, rest-field}
use Rattle.network_file.proofs.content.heading_byte.Goals as goal

pub returns-then-i-eq4 : goal.returns-then-i-eq4
returns-then-i-eq4 c =
    let a = c.args in
    sym (ap (heading_byte a.state a.roots.now) c.if-i-eq4.true ∙ inputs-field a.state a.roots.now)

pub returns-then-i-eq5 : goal.returns-then-i-eq5
returns-then-i-eq5 c =
    let a = c.args in
    sym (ap (heading_byte a.state a.roots.now) c.if-i-eq5.true ∙ outputs-field a.state a.roots.now)

pub returns-then-i-state : goal.returns-then-i-state
returns-then-i-state c =
    let a = c.args in
    c.order_byte.ensures
    ∙ sym
    (order-field a.state a.roots.now a.i (omega (arith, c.if-i-eq4.false, c.if-i-eq5.false, c.requires.1.0)) c.if-i-state.true
    c.requires.0.inputs)

pub returns-then-i-lt-COUNT_AT : goal.returns-then-i-lt-COUNT_AT
returns-then-i-lt-COUNT_AT c =
    let a = c.args in
    sym (unused-field a.state a.roots.now a.i c.if-i-state.false c.if-i-lt-COUNT_AT.true)

pub returns-then-i-lt-ROOTS_AT : goal.returns-then-i-lt-ROOTS_AT
returns-then-i-lt-ROOTS_AT c =
    let a = c.args in
    c.number_byte.ensures ∙ sym (count-field a.state a.roots.now a.i c.if-i-lt-COUNT_AT.false c.if-i-lt-ROOTS_AT.true)

pub returns-then-i-state-2 : goal.returns-then-i-state-2
returns-then-i-state-2 c =
    let a = c.args in
    c.number_byte-then-i-state-2.ensures
    ∙ ap (λ (x : ℕ). number_byte x ((a.i - roots_at) % 2)) c.lent_number.ensures.0
    ∙ sym (root-field a.state a.roots.now a.i c.if-i-lt-ROOTS_AT.false c.if-i-state-2.true)

pub returns : goal.returns
returns c =
    let a = c.args in
    sym (rest-field a.state a.roots.now a.i c.if-i-state-2.false)
