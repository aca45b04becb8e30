-- `swapping::swap::swap_checked` meets its contract: the links are put, and read as they are; 23 or the network comes of it.
-- Assumes nothing.
use Rattle.std.specs.Prelude.{is_ok}
use Rattle.std.proofs.lemmas.Result.{err_from_is_err_and, IfOk-at_ok}
use mathlib.Core.Path.{◌≡◌, refl, sym, ap, ◌∙◌}
use native.Mathlib.Omega.{arith}
use Rattle.lent.proofs.Sizes.{roots-size}
use Rattle.table.specs.declared.Done.{Done}
use Rattle.table.specs.declared.State.{State}
use Rattle.table.specs.State.{exchanged, reordered_state}
use Rattle.network.specs.Build.{network_state}
use Rattle.swapping.proofs.Checks.{Passed, passed, swapped-done}
use Rattle.swapping.proofs.HeldLinks.{few, few', held-room}
use Rattle.swapping.proofs.Cases.{small-case, laid-case}
use Rattle.swapping.proofs.swap.swap_checked.Goals as goal
use Rattle.swapping.proofs.swap.swap_checked.Goals.{Start}

-- where the function begins, with the checks passed; and where the links are put
all-passed : (b : Start)
    → let a =
    b.args in
    Passed a.state a.p a.work.now a.roots.now a.cells.now
all-passed b = let a = b.args in passed a.state a.p a.work.now a.roots.now a.cells.now b.requires

pub exchanged_links-entries-requires : goal.exchanged_links-entries-requires
exchanged_links-entries-requires c =
    let a = c.args in
    let P = all-passed (goal.at.exchanged_links-entries-requires c).Start in
    let n = few a.state a.p a.work.now a.roots.now a.cells.now P in
    let m = few' a.state a.p a.work.now a.roots.now a.cells.now P in record {
      n_le_most_variables = (n, omega (arith, P.place, n), m, omega (arith, m, P.tested.long, roots-size));
      roots_len_bound = held-room a.state a.p a.work.now a.roots.now a.cells.now P;
      work_size_in_bounds = P.enough;
    }

pub unwrap-swapped-requires : goal.unwrap-swapped-requires
unwrap-swapped-requires c =
    let a = c.args in
    ap is_ok (c.swap.ensures
    ∙ swapped-done a.state a.p a.work.now a.roots.now a.cells.now (all-passed (goal.at.unwrap-swapped-requires c).Start))

pub returns : goal.returns
returns c =
    let k = c.exchanged_links-entries in
    let a = c.args in
    let P = all-passed (goal.at.returns c).Start in
    let r = c.read_links in
    let v = c.in_ok-total.total in
    let e : c.unwrap-swapped.result.state ≡ reordered_state a.state (exchanged a.p a.state.order) =
    IfOk-at_ok (λ (d : Done). d.state ≡ reordered_state a.state (exchanged a.p a.state.order))
    (sym (swapped-done a.state a.p a.work.now a.roots.now a.cells.now P) ∙ sym c.swap.ensures ∙ c.unwrap-swapped.ensures) refl in
    let all = laid-case a.state a.p a.work.now a.roots.now a.cells.now P k.result _ k.ensures.entries k.ensures.work
    r.result r.ensures.answer _ _ _ r.ensures.roots r.ensures.cells r.ensures.work v c.in_ok-total.was
    c.with_network.result (c.with_network.ensures ∙ ap (λ (x : State). network_state x v) e)
    in
    record { outcome = all.0; roots = all.1.0; cells = all.1.1.0; work = all.1.1.1 }

pub returns-in_err-total : goal.returns-in_err-total
returns-in_err-total c =
    let k = c.exchanged_links-entries in
    let a = c.args in
    let r = c.read_links in
    let p = err_from_is_err_and c.from_residual.result c.from_residual.ensures.1 in
    let all = small-case a.state a.p a.work.now a.roots.now a.cells.now
    (all-passed (goal.at.returns-in_err-total c).Start) k.result _ k.ensures.entries
    k.ensures.work r.result r.ensures.answer _ _ _ r.ensures.roots r.ensures.cells r.ensures.work
    c.in_err-total.field-0.0 c.in_err-total.was in
    rw (p.1, p.2) record { outcome = all.0; roots = all.1.0; cells = all.1.1.0; work = all.1.1.1 }
