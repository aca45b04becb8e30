-- `table::cared::cared` meets its contract, a law for each way out; a table that is held has few bits. Assumes nothing.
use mathlib.Core.Path.{sym, ◌∙◌}
use native.Mathlib.Omega.{arith}
use borrow.Author.Tests.{not-false}
use Rattle.lists.proofs.Bools.{to-T}
use Rattle.table.proofs.Held.{few_bits}
use Rattle.table.proofs.Planes.CaredBits.{cared-done}
use Rattle.table.proofs.Planes.PlaneSize.{plane-size}
use Rattle.table.proofs.cared.cared.Goals as goal

pub returns : goal.returns
returns c =
    let a = c.args in
    let r = c.holds_table in
    let e = sym r.ensures ∙ not-false r.result c.if-not-holds_table.false-raw in
    sym (cared-done a.state a.care.now (omega (arith, plane-size)) e (few_bits a.state (to-T e))
    c.cared_bits.result c.cared_bits.ensures)
