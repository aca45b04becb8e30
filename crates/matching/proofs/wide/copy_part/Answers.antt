use mathlib.Core.Path.{refl, sym, ap, ◌∙◌}
use mathlib.Core.List.{List}
use Prim.Native.Nat.{ℕ}
use native.Mathlib.Omega.{arith}
use lib.ListN.{length, get_or, take, length-set}
use lib.Seq.{take_all}
use Rattle.lists.proofs.Written.Paste.{copied_more}
use Rattle.matching.proofs.wide.copy_part.Goals as goal

pub loop-i-init : goal.loop-i-init
loop-i-init c = (c.requires, refl)

pub loop-i-preserved : goal.loop-i-preserved
loop-i-preserved c =
    let l = c.loop-i in
    let part = c.args.part.now in (
      length-set l.entry l.i (get_or part l.i 0) ∙ l.invariant.0,
      copied_more part l.entry l.i (omega arith) (omega (arith, l.invariant.0)) l.invariant.1,
    )

pub returns : goal.returns
returns c =
    let l = c.loop-i in
    let part = c.args.part.now in
    sym (take_all l.i l.entry (omega (arith, l.invariant.0))) ∙ l.invariant.1 ∙ take_all l.i part (omega arith)
