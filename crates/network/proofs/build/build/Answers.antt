-- `network::build::build` meets its contract: each way it ends is a law of `BuildCases`.
-- Assumes nothing.
use mathlib.Core.Path.{sym, ◌∙◌}
use Rattle.std.proofs.lemmas.Result.{err_from_is_err_and}
use Rattle.network.proofs.Building.BuildCases.{short-case, refused-case, small-case, ready, built-case}
use Rattle.network.proofs.build.build.Goals as goal

pub returns-then-roots-lt-ROOTS : goal.returns-then-roots-lt-ROOTS
returns-then-roots-lt-ROOTS c =
    let a = c.args in
    let all = short-case a.state a.values.now a.care.now a.work.now a.roots.now a.cells.now c.if-roots-lt-ROOTS.true in
    record {
      outcome = all.0;
      roots = all.1.0;
      cells = all.1.1.0;
      work = all.1.1.1.0;
      built = all.1.1.1.1.0;
      fit = all.1.1.1.1.1;
    }

pub returns-then-cells-total : goal.returns-then-cells-total
returns-then-cells-total c =
    let a = c.args in
    let k = c.fill_table in
    let all = small-case a.state a.values.now a.care.now a.work.now a.roots.now a.cells.now c.if-roots-lt-ROOTS.false
    k.new.work k.ensures.work c.in_ok-levels.levels (sym k.ensures.levels ∙ c.in_ok-levels.was) c.if-cells-total.true c.clear.new.work
    c.clear.ensures in
    record {
      outcome = all.0;
      roots = all.1.0;
      cells = all.1.1.0;
      work = all.1.1.1.0;
      built = all.1.1.1.1.0;
      fit = all.1.1.1.1.1;
    }

pub lay_out-requires : goal.lay_out-requires
lay_out-requires c =
    let a = c.args in
    let k = c.fill_table in
    let all = ready a.state a.values.now a.care.now a.work.now a.roots.now a.cells.now c.if-roots-lt-ROOTS.false
    k.new.work k.ensures.work c.in_ok-levels.levels (sym k.ensures.levels ∙ c.in_ok-levels.was) c.if-cells-total.false in
    record {
      n_le_most_variables = all.0;
      total_value = all.1.0;
      roots_size_in_bounds = all.1.1.0;
      by_index = all.1.1.1;
    }

pub returns : goal.returns
returns c =
    let a = c.args in
    let k = c.fill_table in
    let y = c.lay_out in
    let all = built-case a.state a.values.now a.care.now a.work.now a.roots.now a.cells.now c.if-roots-lt-ROOTS.false
    k.new.work k.ensures.work c.in_ok-levels.levels (sym k.ensures.levels ∙ c.in_ok-levels.was) c.if-cells-total.false y.new.work
    y.new.roots y.new.cells y.ensures.work y.ensures.cells y.ensures.roots
    c.with_network.result c.with_network.ensures in
    record {
      outcome = all.0;
      roots = all.1.0;
      cells = all.1.1.0;
      work = all.1.1.1.0;
      built = all.1.1.1.1.0;
      fit = all.1.1.1.1.1;
    }

pub returns-in_err-levels : goal.returns-in_err-levels
returns-in_err-levels c =
    let a = c.args in
    let k = c.fill_table in
    let p = err_from_is_err_and c.from_residual.result c.from_residual.ensures.1 in
    let all = refused-case a.state a.values.now a.care.now a.work.now a.roots.now a.cells.now c.if-roots-lt-ROOTS.false
    k.new.work k.ensures.work c.in_err-levels.field-0.0 (sym k.ensures.levels ∙ c.in_err-levels.was) in
    rw (p.1, p.2) record {
      outcome = all.0;
      roots = all.1.0;
      cells = all.1.1.0;
      work = all.1.1.1.0;
      built = all.1.1.1.1.0;
      fit = all.1.1.1.1.1;
    }
