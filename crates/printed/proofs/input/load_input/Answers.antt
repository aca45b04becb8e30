-- `printed::input::load_input` meets its contract.
-- Assumes nothing.
use borrow.Author.Rules.{rules}
use Rattle.printed.proofs.Inputs.InputCases.{long-outcome, long-values, long-care, short-outcome, short-values, short-care}
use Rattle.printed.proofs.input.load_input.Goals as goal

pub returns-then-file-gt-LONGEST : goal.returns-then-file-gt-LONGEST
returns-then-file-gt-LONGEST c =
    record {
      outcome = search (rules, long-outcome, long-values, long-care);
      values = search (rules, long-outcome, long-values, long-care);
      care = search (rules, long-outcome, long-values, long-care);
    }

pub returns : goal.returns
returns c =
    record {
      outcome = search (rules, short-outcome, short-values, short-care);
      values = search (rules, short-outcome, short-values, short-care);
      care = search (rules, short-outcome, short-values, short-care);
    }
