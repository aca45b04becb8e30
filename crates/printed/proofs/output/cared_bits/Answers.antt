-- `printed::output::cared_bits` meets its contract.
-- Assumes nothing.
use borrow.Author.Rules.{rules}
use Rattle.printed.proofs.Texts.OutputCases.{cared-value}
use Rattle.printed.proofs.output.cared_bits.Goals as goal

pub returns : goal.returns
returns c =
    search (rules, cared-value)
