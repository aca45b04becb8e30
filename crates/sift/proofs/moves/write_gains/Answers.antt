use borrow.Author.Rules.{rules}
use mathlib.Core.Path.{◌≡◌, refl, sym, ap, ◌∙◌, subst}
use Prim.Native.Nat.{ℕ, ◌≤◌}
use native.Mathlib.Omega.{arith}
use lib.IntN.{pos, ◌-ℤ◌}
use lib.ListN.{length-set}
use mir.Syntax.{w32}
use mir.Val.{to_z, of_z}
use mir.ValLaws.{to_z-of_z}
use Rattle.lists.specs.Written.{over}
use Rattle.lists.proofs.Written.Over.{over-next}
use Rattle.diagram.specs.Networks.Bound.{most_nodes}
use Rattle.sift.specs.Inner.Counts.{counts_gain}
use Rattle.sift.proofs.moves.write_gains.Goals as goal

pub loop-p-preserved : goal.loop-p-preserved
loop-p-preserved c =
    let a = c.args in
    let l = c.loop-p in
    let f = counts_gain a.present a.counts.now in
    let brought : to_z w32 (of_z w32 c.gain-brought.result) ≡ f l.p =
    to_z-of_z w32 c.gain-brought.result (record { sfits = c.gain-brought.type_inv })
    ∙ c.gain-brought.ensures
    ∙ ap (λ (x : ℕ). pos x -ℤ pos a.present) c.total_of.ensures in
    let e = over-next f a.row.now l.row l.p _ (omega arith) l.invariant.1.0 brought in
    (omega arith, (e, simp length-set l.invariant.1.1))
