-- `text::held::put_totals` meets its contract.
-- Assumes nothing.
use borrow.Author.Rules.{rules}
use Rattle.text.proofs.Lines.{written-totals}
use Rattle.text.proofs.held.put_totals.Goals as goal

pub returns : goal.returns
returns c =
    search (rules, written-totals)
