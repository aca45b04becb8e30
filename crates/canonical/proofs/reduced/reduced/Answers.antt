use Rattle.std.proofs.Common.{◌≡◌, sym, ap, ◌∙◌, arith, true, false, rules}
use Rattle.lists.proofs.Numbers.Compared.{all-up_to-more}
use Rattle.diagram.specs.Canonical.Structure.{node_reduced}
use Rattle.canonical.specs.Inner.Reduced.{is_new}
use Rattle.canonical.proofs.Nodes.{reduced_at, slotted-more, redundant, not_new, all-reduced}
use Rattle.canonical.proofs.reduced.reduced.Goals as goal

pub returns-then-not-is_reduced : goal.returns-then-not-is_reduced
returns-then-not-is_reduced c =
    let no : c.is_reduced.result ≡ false = search rules in
    sym (redundant c.args.cells.now c.args.count c.loop-i.i (search rules)
    (ap (node_reduced true) (sym c.node_at.ensures) ∙ sym c.is_reduced.ensures ∙ no))

pub returns-then-not-is_new : goal.returns-then-not-is_new
returns-then-not-is_new c =
    let no : c.is_new.result ≡ false = search rules in
    sym (not_new c.args.cells.now c.args.count c.loop-i.i (search rules) (sym c.is_new.ensures.tested ∙ no))

pub loop-i-preserved : goal.loop-i-preserved
loop-i-preserved c =
    let cells = c.args.cells.now in
    let l = c.loop-i in
    let yes : c.is_reduced.result ≡ true = search rules in
    let new : c.is_new.result ≡ true = search rules in record {
      edges = all-up_to-more (reduced_at cells) l.i l.invariant.edges
          (ap (node_reduced true) (sym c.node_at.ensures) ∙ sym c.is_reduced.ensures ∙ yes);
      apart = all-up_to-more (is_new cells) l.i l.invariant.apart (sym c.is_new.ensures.tested ∙ new);
      marked = slotted-more cells l.i c.is_new.new.marks c.is_new.ensures.marks;
    }

pub returns : goal.returns
returns c =
    let l = c.loop-i in
    sym (all-reduced c.args.cells.now c.args.count l.i (omega arith) l.invariant.edges l.invariant.apart)
