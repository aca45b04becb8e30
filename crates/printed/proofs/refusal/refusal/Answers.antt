-- `printed::refusal::refusal` meets its contract.
-- Assumes nothing.
use borrow.Author.Rules.{rules}
use Rattle.printed.proofs.Texts.OutputCases.{written-refusal}
use Rattle.printed.proofs.refusal.refusal.Goals as goal

pub returns : goal.returns
returns c =
    search (rules, written-refusal)
