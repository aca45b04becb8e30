-- `text::held::put_root` meets its contract.
-- Assumes nothing.
use borrow.Author.Rules.{rules}
use Rattle.text.proofs.Lines.{written-root}
use Rattle.text.proofs.held.put_root.Goals as goal

pub returns : goal.returns
returns c =
    search (rules, written-root)
