-- `network_file::content::cells_byte` meets its contract.
-- Assumes nothing.
use mathlib.Core.Path.{sym, ap, ◌∙◌}
use Prim.Native.Nat.{ℕ, ◌-◌, ◌%◌}
use native.Mathlib.Omega.{arith}
use Rattle.block.specs.Block.{content_at}
use Rattle.block.specs.Numbers.{number_byte}
use Rattle.network_file.proofs.Writing.WrittenFields.{carried-field, past-field}
use Rattle.network_file.proofs.content.cells_byte.Goals as goal

pub returns-then-i-carried : goal.returns-then-i-carried
returns-then-i-carried c =
    let y = c.lent_number in
    let w = c.carried in
    let a = c.args in
    c.number_byte.ensures ∙ ap (λ (x : ℕ). number_byte x ((a.i - content_at) % 2)) y.ensures.0
    ∙ sym (carried-field a.count a.cells.now a.k a.i (omega (arith, c.if-i-carried.true, w.ensures.0)))

pub returns : goal.returns
returns c =
    let w = c.carried in
    let a = c.args in
    sym (past-field a.count a.cells.now a.k a.i (omega (arith, c.if-i-carried.false, w.ensures.0)))
