-- `filed::output::write_held` meets its contract.
-- Assumes nothing.
use mathlib.Core.Path.{sym, ap, ◌∙◌}
use borrow.Author.Rules.{rules}
use borrow.Author.Tests.{not-true, not-false}
use Rattle.table.specs.Answer.{done}
use Rattle.filed.proofs.FiledCases.{blocks-small, written-file, written-unfiled}
use Rattle.filed.proofs.output.write_held.Goals as goal

pub returns-then-is_err : goal.returns-then-is_err
returns-then-is_err c =
    let a = c.args in
    let e = c.write_cells-answer.ensures in record {
      text = written-unfiled a.state a.roots.now a.cells.now a.work.now a.out.now c.write_cells-answer.result _ _ _ e.answer
          (c.if-is_err.ensures.negation) e.file c.refusal.ensures;
      work = e.work;
    }

pub overflow_mul-result : goal.overflow_mul-result
overflow_mul-result c =
    let a = c.args in
    search (rules, blocks-small a.state.count)

pub returns : goal.returns
returns c =
    let a = c.args in
    let e = c.write_cells-answer.ensures in record {
      text = written-file a.state a.roots.now a.cells.now a.work.now a.out.now
          (ap done (sym e.answer) ∙ c.if-is_err.ensures.negation) _ _ e.file c.file_blocks.ensures;
      work = e.work;
    }
