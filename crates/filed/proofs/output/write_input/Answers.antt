-- `filed::output::write_input` meets its contract.
-- Assumes nothing.
use mathlib.Core.Path.{◌∙◌}
use Rattle.text.proofs.Writing.{written_as}
use Rattle.filed.proofs.FiledCases.{filed-of, filed-work-of}
use Rattle.filed.proofs.output.write_input.Goals as goal

pub returns : goal.returns
returns c =
    let a = c.args in
    let e = c.build_input-outcome.ensures in
    let f = c.write_outcome.ensures in record {
      text = written_as
          (filed-of a.file.now a.values.now a.care.now a.work.now a.roots.now a.cells.now a.out.now
          c.build_input-outcome.result _ _ _ e.outcome e.work e.roots e.cells) f.text;
      values = e.values;
      care = e.care;
      work = f.work
          ∙ filed-work-of a.file.now a.values.now a.care.now a.work.now a.roots.now a.cells.now
          a.out.now c.build_input-outcome.result _ _ _ e.outcome e.work e.roots e.cells;
      roots = e.roots;
      cells = e.cells;
    }
