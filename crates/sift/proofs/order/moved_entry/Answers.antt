-- `sift::order::moved_entry` meets its contract. The entry, by whether it stands above p, at p or below it.
-- Assumes nothing.
use borrow.Author.Rules.{rules}
use mathlib.Core.Path.{sym, ◌∙◌}
use Rattle.sift.proofs.Trying.MovedEntries.{moved-above, moved_here, moved-below}
use Rattle.sift.proofs.order.moved_entry.Goals as goal

pub returns-then-i-p : goal.returns-then-i-p
returns-then-i-p c =
    let a = c.args in
    c.other.ensures ∙ sym (moved-above a.order a.v a.q a.p a.i (search rules))

pub returns-then-i-p-2 : goal.returns-then-i-p-2
returns-then-i-p-2 c =
    let a = c.args in
    sym (moved_here a.order a.v a.q a.p a.i (search rules))

pub returns : goal.returns
returns c =
    let a = c.args in
    c.other-2.ensures ∙ sym (moved-below a.order a.v a.q a.p a.i (search rules) c.if-i-p-2.false)
