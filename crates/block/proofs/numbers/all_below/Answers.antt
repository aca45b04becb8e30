use mathlib.Core.Path.{refl, sym}
use native.Mathlib.Omega.{arith}
use Rattle.block.proofs.Elements.{one-beyond, one_below, every-below}
use Rattle.block.proofs.numbers.all_below.Goals as goal

pub returns-then-limit-number : goal.returns-then-limit-number
returns-then-limit-number c =
    let l = c.loop-x in
    let a = c.args in
    sym (one-beyond a.limit a.numbers.now l.x-index _ c.loop-x-test.true refl c.if-limit-number.true)

pub loop-x-preserved : goal.loop-x-preserved
loop-x-preserved c =
    let l = c.loop-x in
    let a = c.args in
    one_below a.limit a.numbers.now l.x-index _ l.invariant refl c.if-limit-number.false

pub returns : goal.returns
returns c =
    let l = c.loop-x in
    let a = c.args in
    sym (every-below a.limit a.numbers.now l.x-index (omega arith) l.invariant)
