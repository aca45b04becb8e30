-- `fill::count_levels` meets its contract, by whether the filling is refused. Assumes nothing.
use mathlib.Core.Path.{◌≡◌, sym, ap, ◌∙◌}
use mathlib.Core.Bool.{true}
use Rattle.table.specs.Answer.{done}
use Rattle.fill.specs.Work.{links_at}
use Rattle.fill.specs.Calls.{count_answer}
use Rattle.std.proofs.lemmas.Result.{err_from_is_err_and}
use Rattle.fill.proofs.Buffers.Sizes.{sizes}
use Rattle.fill.proofs.Calls.Answers.{levels-refused, levels-done, done_held, count-refused, count-cleared}
use Rattle.fill.proofs.count_levels.Goals as goal
use Rattle.fill.proofs.count_levels.Goals.{In_ok-levels}

pub returns-in_err-levels : goal.returns-in_err-levels
returns-in_err-levels c =
    let a = c.args in
    let f = c.fill_table in
    let p = err_from_is_err_and c.from_residual.result c.from_residual.ensures.1 in
    let e = sym f.ensures.levels ∙ c.in_err-levels.was in
    rw (p.1, p.2) record {
      levels = sym c.in_err-levels.was ∙ f.ensures.levels;
      work = count-refused a.state a.values.now a.care.now a.work.now f.new.work c.in_err-levels.field-0.0
          (levels-refused a.state a.values.now a.care.now a.work.now c.in_err-levels.field-0.0 e) f.ensures.work;
    }

-- a success: the work buffer has its size
success : (k : In_ok-levels)
    → let a = k.args in
    done (count_answer a.state a.values.now a.care.now a.work.now) ≡ true
success k =
    let a = k.args in
    ap done (levels-done a.state a.values.now a.care.now a.work.now k.in_ok-levels.levels
    (sym k.fill_table.ensures.levels ∙ k.in_ok-levels.was)).1

pub zero-requires : goal.zero-requires
zero-requires c =
    let a = c.args in
    omega (
      sizes,
      (done_held a.state a.values.now a.care.now a.work.now (success (goal.at.zero-requires c).In_ok-levels)).0,
      c.fill_table.auto.work,
    )

pub returns-clause-work : goal.returns-clause-work
unfolding links_at
returns-clause-work c =
    let a = c.args in
    count-cleared a.state a.values.now a.care.now a.work.now c.fill_table.new.work c.zero.new.l
    (success (goal.at.returns-clause-work c).In_ok-levels) c.fill_table.ensures.work c.zero.ensures
