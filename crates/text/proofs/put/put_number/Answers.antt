-- `text::put::put_number` meets its contract.
-- Assumes nothing.
use borrow.Author.Rules.{rules}
use Rattle.text.proofs.Digits.{written-spaced}
use Rattle.text.proofs.put.put_number.Goals as goal

pub returns : goal.returns
returns c =
    search (rules, written-spaced)
