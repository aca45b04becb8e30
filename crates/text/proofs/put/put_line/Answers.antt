-- `text::put::put_line` meets its contract.
-- Assumes nothing.
use borrow.Author.Rules.{rules}
use Rattle.text.proofs.Lines.{written-line}
use Rattle.text.proofs.put.put_line.Goals as goal

pub returns : goal.returns
returns c =
    search (rules, written-line)
