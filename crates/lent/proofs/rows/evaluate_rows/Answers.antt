-- `lent::rows::evaluate_rows` meets its contract: a success writes what each row gives alone; the refusals need no answer.
-- Assumes nothing.
use mathlib.Core.Path.{sym, ap, ◌∙◌}
use mathlib.Core.List.{List, ◌++◌}
use Prim.Native.Nat.{ℕ}
use lib.Dec.{ltb}
use lib.ListN.{length, drop}
use Rattle.lists.specs.Lists.{all}
use Rattle.lent.proofs.Answered.{held_rows}
use Rattle.lent.proofs.ManyRows.{rows-walked, rows-done}
use Rattle.lent.proofs.rows.evaluate_rows.Goals as goal

pub returns : goal.returns
returns c =
    let a = c.args in
    let held = sym c.holds_network.ensures ∙ c.if-not-holds_network.false in
    let known = ap (λ (k : ℕ). all (λ row. ltb row k) a.rows.now) (sym (held_rows a.state held)) ∙ sym c.all_below.ensures
    ∙ c.if-not-all_below.false in
    let found = c.in_ok-network.ensures in
    let done = rows-done a.state a.rows.now a.answers.now a.roots.now a.cells.now c.if-roots-lt-ROOTS.false c.if-answers-rows.false held known
    found.good c.write_answers.new.answers
    (simp (found.same.0, found.same.1, found.same.2) at c.write_answers.ensures
    ∙ sym (ap (λ (l : List ℕ). l ++ drop (length a.rows.now) a.answers.now) (rows-walked a.state a.rows.now a.roots.now a.cells.now))) in
    record { answer = done.0; answers = done.1; alone = λ _. done.2 }
