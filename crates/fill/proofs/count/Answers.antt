-- `fill::count` meets its contract, by the answer of the levels. Assumes nothing.
use mathlib.Core.Path.{sym, ◌∙◌}
use Rattle.std.proofs.lemmas.Result.{err_from_is_err_and}
use Rattle.fill.proofs.Calls.Answers.{levels-refused, levels-done}
use Rattle.fill.proofs.count.Goals as goal

pub returns-in_err-count_levels-clause-answer : goal.returns-in_err-count_levels-clause-answer
returns-in_err-count_levels-clause-answer c =
    let a = c.args in
    let p = err_from_is_err_and c.from_residual.result c.from_residual.ensures.1 in
    rw (p.1, p.2) (sym (levels-refused a.state a.values.now a.care.now a.work.now c.in_err-count_levels.field-0.0
    (sym c.count_levels.ensures.levels ∙ c.in_err-count_levels.was)))

pub returns-clause-answer : goal.returns-clause-answer
returns-clause-answer c =
    let a = c.args in
    sym (levels-done a.state a.values.now a.care.now a.work.now c.in_ok-count_levels.field-0
    (sym c.count_levels.ensures.levels ∙ c.in_ok-count_levels.was)).1

pub returns-clause-work : goal.returns-clause-work
returns-clause-work c = c.count_levels.ensures.work
