-- `printed::built::build_input` meets its contract.
-- Assumes nothing.
use mathlib.Core.Path.{sym, ◌∙◌}
use Rattle.std.proofs.lemmas.Result.{err_from_is_err_and}
use Rattle.printed.proofs.Inputs.BuiltCases.{unread, built}
use Rattle.printed.proofs.built.build_input.Goals as goal

pub returns-in_err-loaded : goal.returns-in_err-loaded
returns-in_err-loaded c =
    let a = c.args in
    let l = c.load_input.ensures in
    let p = err_from_is_err_and c.from_residual.result c.from_residual.ensures.1 in
    let all = unread a.file.now a.values.now a.care.now a.work.now a.roots.now a.cells.now _ _ l.values l.care
    c.in_err-loaded.field-0.0 (sym l.outcome ∙ c.in_err-loaded.was) in
    rw (p.1, p.2) record {
      outcome = all.0;
      values = all.1.0;
      care = all.1.1.0;
      work = all.1.1.1.0;
      roots = all.1.1.1.1.0;
      cells = all.1.1.1.1.1;
    }

pub returns : goal.returns
returns c =
    let a = c.args in
    let l = c.load_input.ensures in
    let b = c.build.ensures in
    let all = built a.file.now a.values.now a.care.now a.work.now a.roots.now a.cells.now _ _ l.values l.care
    c.in_ok-loaded.loaded (sym l.outcome ∙ c.in_ok-loaded.was) c.build.result _ _ _ b.outcome b.work b.roots b.cells in
    record {
      outcome = all.0;
      values = all.1.0;
      care = all.1.1.0;
      work = all.1.1.1.0;
      roots = all.1.1.1.1.0;
      cells = all.1.1.1.1.1;
    }
