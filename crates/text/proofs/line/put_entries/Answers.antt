-- `text::line::put_entries` meets its contract. Assumes nothing.
use borrow.Author.Rules.{rules}
use Rattle.text.proofs.Writing.{written-more}
use Rattle.text.proofs.line.put_entries.Goals as goal

pub loop-variable-preserved : goal.loop-variable-preserved
loop-variable-preserved c = search (rules, written-more)
