use borrow.Author.Rules.{rules}
use mathlib.Core.Path.{◌≡◌, refl, sym, ap, ap₂, ◌∙◌}
use mathlib.Core.List.{List, ◌++◌, append-nil}
use Prim.Native.Nat.{ℕ}
use native.Mathlib.Omega.{arith}
use lib.ListN.{set, take, drop, replicate, length-drop}
use lib.Seq.{get_or-drop}
use Rattle.lists.proofs.Written.Paste.{paste_more}
use Rattle.diagram.specs.Networks.Bound.{most_variables}
use Rattle.yavdocsil.specs.Words.{order_at}
use Rattle.yavdocsil.proofs.state.read_order.Goals as goal

pub loop-p-init : goal.loop-p-init
loop-p-init c =
    (search rules, refl)

pub loop-p-preserved : goal.loop-p-preserved
loop-p-preserved c =
    let l = c.loop-p in
    let words = c.args.words.now in (
      search rules,
      ap₂ (λ (o : List ℕ) (x : ℕ). set o l.p x) l.invariant.1 (sym (get_or-drop order_at words l.p 0))
          ∙ paste_more (drop order_at words) (replicate most_variables 0) l.p (omega (arith, length-drop order_at words)) (omega arith),
    )

pub returns : goal.returns
returns c =
    let l = c.loop-p in
    let entries : List ℕ = drop order_at c.args.words.now in
    let e : l.p ≡ most_variables = omega arith in
    l.invariant.1
    ∙ ap (λ (p : ℕ). take p entries ++ drop p (replicate most_variables 0)) e
    ∙ append-nil (take most_variables entries)
