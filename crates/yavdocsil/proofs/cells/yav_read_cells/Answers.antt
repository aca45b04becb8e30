-- `yavdocsil::cells::yav_read_cells` meets its contract: what `read_cells` owes of its outcome is carried to the answer and the words.
-- Assumes nothing.
use mathlib.Core.Path.{refl, sym, ap, ◌∙◌, subst}
use Rattle.table.specs.Answer.{Outcome, answer_of}
use Rattle.lent.specs.Lent.{lent_diagram}
use Rattle.network.specs.Build.{capacity}
use Rattle.network_file.specs.Read.{Given}
use Rattle.yavdocsil.specs.Words.{state_from}
use Rattle.yavdocsil.specs.Called.{words_after, success}
use Rattle.yavdocsil.proofs.SmallValues.{Small, read_small}
use Rattle.yavdocsil.proofs.Calling.{short-answer, short-leaves, short-refused, called-answer, called-leaves, carried}
use Rattle.yavdocsil.proofs.cells.yav_read_cells.Goals as goal

pub returns-then-words-lt-WORDS : goal.returns-then-words-lt-WORDS
returns-then-words-lt-WORDS c =
    let r = c.answer_word in
    let i = c.if-words-lt-WORDS in
    let a = c.args in
    let short = short-leaves a.words.now i.true in record {
      answer = short-answer a.words.now i.true _ r.result r.ensures;
      words = short _ _;
      values = short _ _;
      care = short _ _;
      work = short _ _;
      roots = short _ _;
      cells = short _ _;
      given = short-refused a.words.now i.true r.result r.ensures;
    }

pub settle-requires : goal.settle-requires
settle-requires c =
    let k = c.read_cells-outcome in
    let i = c.if-words-lt-WORDS in
    let a = c.args in (
      i.false,
      subst (λ (o : Outcome). Small (answer_of o)) (sym k.ensures.outcome)
          (read_small a.file.now (λ j. (c.shared_slice_known-1.given j).fits) a.values.now a.care.now
          a.work.now a.roots.now a.cells.now),
    )

pub returns : goal.returns
returns c =
    let r = c.settle in
    let k = c.read_cells-outcome in
    let i = c.if-words-lt-WORDS in
    let a = c.args in
    let leaves-as = called-leaves a.words.now i.false (state_from a.words.now) refl in
    let values = k.new.values in
    let care = k.new.care in
    let roots = k.new.roots in
    let cells = k.new.cells in record {
      answer = called-answer a.words.now i.false (state_from a.words.now) refl _ r.result (answer_of k.result) r.ensures.answer
          (ap answer_of k.ensures.outcome);
      words = leaves-as _ _ _ (r.ensures.words ∙ ap (λ (o : Outcome). words_after o a.words.now) k.ensures.outcome);
      values = leaves-as _ _ _ k.ensures.values;
      care = leaves-as _ _ _ k.ensures.care;
      work = leaves-as _ _ _ k.ensures.work;
      roots = leaves-as _ _ _ k.ensures.roots;
      cells = leaves-as _ _ _ k.ensures.cells;
      given = λ h. carried (state_from a.words.now) (state_from a.words.now) refl k.result (success r.result _)
          (r.ensures.success h)
          (λ _ o. Given o.state values care (lent_diagram o.state.count o.state.m cells roots) (capacity cells))
          k.ensures.given;
    }
