use borrow.Author.Rules.{rules}
use native.Mathlib.Omega.{arith}
use Rattle.sift.proofs.Trying.MovedEntries.{moved_more, moved-whole}
use Rattle.sift.proofs.order.moved_to.Goals as goal

pub loop-i-preserved : goal.loop-i-preserved
loop-i-preserved c =
    let a = c.args in
    let l = c.loop-i in
    let q = c.level_of-q in (
      search rules,
      moved_more a.n a.order c.requires.order a.v a.p (search rules) (search rules) l.i (search rules) (search rules)
          l.after c.moved_entry.result q.result l.invariant.1 q.ensures c.moved_entry.ensures,
    )

pub returns : goal.returns
returns c =
    let a = c.args in
    let l = c.loop-i in
    moved-whole a.n a.order c.requires.order a.v a.p (search rules) (search rules) l.i (omega arith) l.after l.invariant.1
