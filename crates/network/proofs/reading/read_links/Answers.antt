-- `network::reading::read_links` meets its contract: each way it ends is a law of `ReadCases`.
-- Assumes nothing.
use mathlib.Core.Path.{sym, ◌∙◌}
use Rattle.std.proofs.lemmas.Result.{err_from_is_err_and}
use Rattle.network.proofs.LinksRead.ReadCases.{short-case, refused-case, small-case, ready, read-case}
use Rattle.network.proofs.reading.read_links.Goals as goal

pub returns-then-roots-lt-ROOTS : goal.returns-then-roots-lt-ROOTS
returns-then-roots-lt-ROOTS c =
    let a = c.args in
    let all = short-case a.n a.m a.entries a.work.now a.roots.now a.cells.now c.if-roots-lt-ROOTS.true in
    record { answer = all.0; roots = all.1.0; cells = all.1.1.0; work = all.1.1.1 }

pub returns-then-cells-total : goal.returns-then-cells-total
returns-then-cells-total c =
    let a = c.args in
    let all = small-case a.n a.m a.entries a.work.now a.roots.now a.cells.now c.if-roots-lt-ROOTS.false
    c.in_ok-levels.levels (sym c.count_links.ensures ∙ c.in_ok-levels.was) c.if-cells-total.true c.clear.new.work c.clear.ensures in
    record { answer = all.0; roots = all.1.0; cells = all.1.1.0; work = all.1.1.1 }

pub lay_out-requires : goal.lay_out-requires
lay_out-requires c =
    let a = c.args in
    let all = ready a.n a.m a.entries a.work.now a.roots.now a.cells.now c.if-roots-lt-ROOTS.false
    c.in_ok-levels.levels (sym c.count_links.ensures ∙ c.in_ok-levels.was) c.if-cells-total.false in
    record {
      n_le_most_variables = all.0;
      total_value = all.1.0;
      roots_size_in_bounds = all.1.1.0;
      by_index = all.1.1.1;
    }

pub returns : goal.returns
returns c =
    let a = c.args in
    let y = c.lay_out in
    let all = read-case a.n a.m a.entries a.work.now a.roots.now a.cells.now c.if-roots-lt-ROOTS.false
    c.in_ok-levels.levels (sym c.count_links.ensures ∙ c.in_ok-levels.was) c.if-cells-total.false y.new.work y.new.roots
    y.new.cells y.ensures.work y.ensures.cells y.ensures.roots in
    record { answer = all.0; roots = all.1.0; cells = all.1.1.0; work = all.1.1.1 }

pub returns-in_err-levels : goal.returns-in_err-levels
returns-in_err-levels c =
    let a = c.args in
    let p = err_from_is_err_and c.from_residual.result c.from_residual.ensures.1 in
    let all = refused-case a.n a.m a.entries a.work.now a.roots.now a.cells.now c.if-roots-lt-ROOTS.false
    c.in_err-levels.field-0.0 (sym c.count_links.ensures ∙ c.in_err-levels.was) in
    rw (p.1, p.2) record { answer = all.0; roots = all.1.0; cells = all.1.1.0; work = all.1.1.1 }
