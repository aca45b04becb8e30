-- `text::held::put_heading` meets its contract.
-- Assumes nothing.
use borrow.Author.Rules.{rules}
use Rattle.text.proofs.Lines.{written-heading}
use Rattle.text.proofs.held.put_heading.Goals as goal

pub returns : goal.returns
returns c =
    search (rules, written-heading)
