-- `text::held::network_text` meets its contract.
-- Assumes nothing.
use borrow.Author.Rules.{rules}
use Rattle.text.proofs.Lines.{written-network}
use Rattle.text.proofs.held.network_text.Goals as goal

pub returns : goal.returns
returns c =
    search (rules, written-network)
