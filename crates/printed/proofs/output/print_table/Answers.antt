-- `printed::output::print_table` meets its contract.
-- Assumes nothing.
use mathlib.Core.Path.{sym, ◌∙◌}
use native.Mathlib.Omega.{arith}
use Rattle.table.proofs.Planes.PlaneSize.{plane-size}
use Rattle.fill.proofs.Buffers.Sizes.{work-size}
use Rattle.lent.proofs.Sizes.{roots-size}
use Rattle.printed.proofs.Texts.FileOutput.{all_left}
use Rattle.printed.proofs.output.print_table.Goals as goal

pub returns : goal.returns
returns c =
    let a = c.args in
    let all = all_left a.file.now a.values.now a.care.now a.work.now a.roots.now a.cells.now
    (c.print_input-arg-1.given.0.1 ∙ sym plane-size) (c.print_input-arg-2-1.given.0.1 ∙ sym plane-size)
    (omega (arith, c.print_input-arg-3-1.given.0.1, work-size)) (omega (arith, c.print_input-arg-4-1.given.0.1, roots-size))
    (omega (arith, c.print_input-arg-5-1.given.0.1)) _ _ _ _ _ (omega (arith, c.print_input-arg-6-1.given.0.1)) (
      c.print_input.ensures.text,
      (
        c.print_input.ensures.values,
        (
          c.print_input.ensures.care,
          (c.print_input.ensures.work, (c.print_input.ensures.roots, c.print_input.ensures.cells)),
        ),
      ),
    ) in
    record {
      text = all.0;
      values = all.1.0;
      care = all.1.1.0;
      work = all.1.1.1.0;
      roots = all.1.1.1.1.0;
      cells = all.1.1.1.1.1;
    }
