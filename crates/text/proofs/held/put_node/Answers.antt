-- `text::held::put_node` meets its contract.
-- Assumes nothing.
use borrow.Author.Rules.{rules}
use Rattle.text.proofs.Lines.{written-node}
use Rattle.text.proofs.held.put_node.Goals as goal

pub returns : goal.returns
returns c =
    search (rules, written-node)
