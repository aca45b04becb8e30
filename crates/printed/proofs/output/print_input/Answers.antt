-- `printed::output::print_input` meets its contract.
-- Assumes nothing.
use Rattle.text.proofs.Writing.{written_as}
use Rattle.printed.proofs.Texts.OutputCases.{printed-of}
use Rattle.printed.proofs.output.print_input.Goals as goal

pub returns : goal.returns
returns c =
    let a = c.args in
    let e = c.build_input-outcome.ensures in record {
      text = written_as
          (printed-of a.file.now a.values.now a.care.now a.work.now a.roots.now a.cells.now
          c.build_input-outcome.result _ _ _ e.outcome e.care e.roots e.cells) c.print_outcome.ensures;
      values = e.values;
      care = e.care;
      work = e.work;
      roots = e.roots;
      cells = e.cells;
    }
