-- `yavdocsil::swap::yav_swap_cells` meets its contract: what `swap_cells` owes of its outcome is carried to the answer and the words.
-- Assumes nothing.
use mathlib.Core.Path.{sym, ap, ◌∙◌, subst}
use mathlib.Core.Bool.{true}
use Rattle.diagram.specs.Demands.{NoneFits}
use Rattle.table.specs.Answer.{Outcome, answer_of}
use Rattle.lent.specs.Lent.{lent_diagram}
use Rattle.network.specs.Build.{capacity}
use Rattle.swapping.specs.Swap.{cell_table, exchanged_order, reaches_swap, Swapped}
use Rattle.yavdocsil.specs.Words.{state_from}
use Rattle.yavdocsil.specs.Called.{words_after, success}
use Rattle.yavdocsil.proofs.SmallValues.{Small, swap-cells-small}
use Rattle.yavdocsil.proofs.Calling.{short-answer, short-leaves, short-refused, short-no-state}
use Rattle.yavdocsil.proofs.Calling.{called-answer, called-leaves, carried, carried-number}
use Rattle.yavdocsil.proofs.swap.yav_swap_cells.Goals as goal

pub returns-then-words-lt-WORDS : goal.returns-then-words-lt-WORDS
returns-then-words-lt-WORDS c =
    let r = c.answer_word in
    let i = c.if-words-lt-WORDS in
    let a = c.args in
    let short = short-leaves a.words.now i.true in record {
      answer = short-answer a.words.now i.true _ r.result r.ensures;
      words = short _ _;
      work = short _ _;
      roots = short _ _;
      cells = short _ _;
      swapped = short-refused a.words.now i.true r.result r.ensures;
      fit = λ e. short-no-state a.words.now i.true e;
    }

pub settle-requires : goal.settle-requires
settle-requires c =
    let k = c.swap_cells-outcome in
    let s = c.read_state in
    let i = c.if-words-lt-WORDS in
    let a = c.args in (
      i.false,
      subst (λ (o : Outcome). Small (answer_of o)) (sym k.ensures.outcome)
          (swap-cells-small s.result a.level a.work.now a.roots.now a.cells.now),
    )

pub returns : goal.returns
returns c =
    let r = c.settle in
    let k = c.swap_cells-outcome in
    let s = c.read_state in
    let i = c.if-words-lt-WORDS in
    let a = c.args in
    let leaves-as = called-leaves a.words.now i.false s.result s.ensures in
    let rs = a.roots.now in
    let cs = a.cells.now in
    let roots = k.new.roots in
    let cells = k.new.cells in
    let small : Small (answer_of k.result) =
    subst (λ (o : Outcome). Small (answer_of o)) (sym k.ensures.outcome)
    (swap-cells-small s.result a.level a.work.now rs cs) in
    let fit =
    carried-number s.result (state_from a.words.now) s.ensures (answer_of k.result) r.result 23 r.ensures.answer small
    (λ t. reaches_swap t a.level a.work.now rs cs)
    (λ t. NoneFits true (cell_table t rs cs) (exchanged_order t a.level) (capacity cs)) in record {
      answer = called-answer a.words.now i.false s.result s.ensures _ r.result (answer_of k.result) r.ensures.answer
          (ap answer_of k.ensures.outcome);
      words = leaves-as _ _ _ (r.ensures.words ∙ ap (λ (o : Outcome). words_after o a.words.now) k.ensures.outcome);
      work = leaves-as _ _ _ k.ensures.work;
      roots = leaves-as _ _ _ k.ensures.roots;
      cells = leaves-as _ _ _ k.ensures.cells;
      swapped = λ h. carried s.result (state_from a.words.now) s.ensures k.result (success r.result _)
          (r.ensures.success h)
          (λ t o. Swapped t a.level rs cs o (lent_diagram o.state.count t.m cells roots) (capacity cells))
          k.ensures.swapped;
      fit = λ _. fit k.ensures.fit;
    }
