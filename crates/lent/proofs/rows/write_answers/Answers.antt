use borrow.Author.Rules.{rules}
use mathlib.Core.Path.{ap, ◌∙◌}
use Prim.Native.Nat.{ℕ, ◌<◌}
use native.Mathlib.Omega.{arith}
use lib.ListN.{get_or}
use Rattle.lists.proofs.Written.Over.{over-next}
use Rattle.lent.specs.Evaluate.{row_outputs}
use Rattle.lent.proofs.Answered.{outputs-small}
use Rattle.lent.proofs.ManyRows.{answers-all}
use Rattle.lent.proofs.rows.write_answers.Goals as goal

pub overflow_cast-answers : goal.overflow_cast-answers
overflow_cast-answers c =
    let w = c.args.network.now in
    let small : c.outputs.result < 65536 = rw c.outputs.ensures (outputs-small w.state _ w.roots.now w.cells.now w.evaluable.rooted.few) in
    omega (arith, small)

pub loop-i-preserved : goal.loop-i-preserved
loop-i-preserved c =
    let w = c.args.network.now in
    over-next (λ j. row_outputs w.state (get_or c.args.rows.now j 0) w.roots.now w.cells.now) c.args.answers.now c.loop-i.answers c.loop-i.i
    c.outputs.result (omega arith) c.loop-i.invariant
    (c.outputs.ensures ∙ ap (λ (row : ℕ). row_outputs w.state row w.roots.now w.cells.now) (search rules))

pub returns : goal.returns
returns c =
    let w = c.args.network.now in
    c.loop-i.invariant
    ∙ answers-all (λ row. row_outputs w.state row w.roots.now w.cells.now) c.args.rows.now c.args.answers.now c.loop-i.i (omega arith)
