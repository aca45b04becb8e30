-- `text::held::put_roots` meets its contract. Assumes nothing.
use borrow.Author.Rules.{rules}
use Rattle.text.proofs.Writing.{written-more}
use Rattle.text.proofs.held.put_roots.Goals as goal

pub loop-j-preserved : goal.loop-j-preserved
loop-j-preserved c = search (rules, written-more)
