use Rattle.std.proofs.Common.{◌≡◌, sym, ap, ◌∙◌, arith, ℕ, rules}
use mathlib.Core.Path.{ap₂}
use Rattle.lists.specs.Lists.{has}
use Rattle.diagram.specs.Networks.Diagram.{same_node}
use Rattle.lent.specs.Lent.{lent_node}
use Rattle.canonical.specs.Inner.Reduced.{lent_nodes}
use Rattle.canonical.proofs.Nodes.{repeated-none, repeated-more, repeated-at}
use Rattle.canonical.proofs.reduced.repeated.Goals as goal

pub loop-j-init : goal.loop-j-init
loop-j-init c = repeated-none c.args.cells.now c.args.i

pub returns-then-eq : goal.returns-then-eq
returns-then-eq c =
    let same = sym (ap₂ same_node c.node_at-node.ensures c.node_at.ensures) ∙ sym c.eq.ensures ∙ c.if-eq.true in
    sym (repeated-at c.args.cells.now c.args.i c.loop-j.j (search rules) same)

pub loop-j-preserved : goal.loop-j-preserved
loop-j-preserved c =
    repeated-more c.args.cells.now c.args.i c.loop-j.j c.loop-j.invariant
    (sym (ap₂ same_node c.node_at-node.ensures c.node_at.ensures) ∙ sym c.eq.ensures ∙ c.if-eq.false)

pub returns : goal.returns
returns c =
    let e : c.loop-j.j ≡ c.args.i = omega arith in
    sym c.loop-j.invariant
    ∙ ap (λ (k : ℕ). has same_node (lent_node c.args.cells.now c.args.i) (lent_nodes c.args.cells.now k)) e
