use Rattle.std.proofs.Common.{sym, ◌∙◌, arith, ◌<◌}
use lib.Seq.{get_or-take, length-take-le}
use Rattle.canonical.proofs.Walked.{walked-start, walked-end, walked-broken, walked-next}
use Rattle.canonical.proofs.walk.numbers_rise.Goals as goal

pub loop-p-init : goal.loop-p-init
loop-p-init c =
    let a = c.args in
    walked-start a.count a.cells.now a.n a.roots.now a.m
    (λ j h. let lt : j < a.m = omega (arith, h, length-take-le a.m a.roots.now c.requires.few.2) in
    rw (get_or-take a.m a.roots.now j 0 lt) (c.requires.roots j lt)) _ c.spread_roots.ensures

pub returns-in_default : goal.returns-in_default
returns-in_default c =
    let l = c.loop-p in
    let a = c.args in
    walked-broken a.count a.cells.now a.n a.roots.now a.m l.below l.next l.p l.invariant c.loop-p-test.true
    (rw c.copy_to-len.ensures.copied at (sym c.standing_from.ensures ∙ c.in_default.is))

pub loop-p-preserved : goal.loop-p-preserved
loop-p-preserved c =
    let l = c.loop-p in
    let a = c.args in
    let k = c.copy_to-len.ensures in
    walked-next a.count a.cells.now a.n a.roots.now a.m l.below l.next l.p l.invariant c.loop-p-test.true c.requires.edges
    (omega arith) c.in-Some.after (rw k.copied at (sym c.standing_from.ensures ∙ c.in-Some.is)) _
    (rw k.copied at c.spread_level.ensures)

pub returns : goal.returns
returns c =
    let l = c.loop-p in
    let a = c.args in
    walked-end a.count a.cells.now a.n a.roots.now a.m l.below l.next l.p l.invariant c.loop-p-test.false
