-- `sift::order::other` meets its contract. The entry is the j-th or the one after it, by the test.
-- Assumes nothing.
use borrow.Author.Rules.{rules}
use mathlib.Core.Path.{sym}
use Rattle.sift.proofs.Trying.MovedEntries.{other-before, other-behind}
use Rattle.sift.proofs.order.other.Goals as goal

pub returns-then-j-q : goal.returns-then-j-q
returns-then-j-q c =
    let a = c.args in
    sym (other-before a.order a.q a.j (search rules))

pub returns : goal.returns
returns c =
    let a = c.args in
    sym (other-behind a.order a.q a.j (search rules))
