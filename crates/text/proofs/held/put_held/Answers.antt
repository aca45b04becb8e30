-- `text::held::put_held` meets its contract.
-- Assumes nothing.
use borrow.Author.Rules.{rules}
use Rattle.text.proofs.Lines.{written_held, written-unheld}
use Rattle.text.proofs.held.put_held.Goals as goal

pub returns-then-holds_network : goal.returns-then-holds_network
returns-then-holds_network c =
    search (rules, written_held)

pub returns : goal.returns
returns c =
    search (rules, written_held, written-unheld)
