use Rattle.std.proofs.Common.{sym, subst, arith, ◌+◌, refl}
use Rattle.canonical.proofs.Standing.{Follows, follows-end, follows-other, follows_next, follows-broken}
use Rattle.canonical.proofs.walk.standing_from.Goals as goal
use Rattle.canonical.proofs.walk.standing_from.Goals.{then-lent_number-p+else-k-after, else-lent_number-p}

pub returns-then-k-after : goal.returns-then-k-after
returns-then-k-after c =
    let l = c.loop-node in
    let a = c.args in
    follows-broken a.cells.now a.p a.next a.level.now l.node-index l.after l.invariant c.loop-node-test.true _ c.lent_number.result refl
    c.lent_number.ensures.0 c.if-lent_number-p.true c.if-k-after.true

pub loop-node-preserved : goal.loop-node-preserved
loop-node-preserved c =
    let l = c.loop-node in
    let a = c.args in
    let i = l.node-index in
    let n = c.lent_number in
    elim c.if-lent_number-p.branch [
      | then-lent_number-p+else-k-after w ↦ subst (Follows a.cells.now a.p a.next a.level.now (i + 1)) (sym w.after-is)
          (follows_next a.cells.now a.p a.next a.level.now i l.after l.invariant c.loop-node-test.true _ n.result refl
          n.ensures.0 w.if-lent_number-p.true w.if-k-after.false)
      | else-lent_number-p w ↦ subst (Follows a.cells.now a.p a.next a.level.now (i + 1)) (sym w.after-is)
          (follows-other a.cells.now a.p a.next a.level.now i l.after l.invariant c.loop-node-test.true _ n.result refl
          n.ensures.0 w.if-lent_number-p.false)
    ]

pub returns : goal.returns
returns c =
    let l = c.loop-node in
    let a = c.args in
    follows-end a.cells.now a.p a.next a.level.now l.node-index l.after l.invariant (omega arith)
