-- `yavdocsil::order::yav_swap` meets its contract: 10 for a short state, else what `swap` answers and leaves.
-- Assumes nothing.
use mathlib.Core.Path.{sym, ap, ◌∙◌, subst}
use Rattle.table.specs.Answer.{Outcome, answer_of}
use Rattle.yavdocsil.specs.Called.{words_after}
use Rattle.yavdocsil.proofs.SmallValues.{Small, swap-small}
use Rattle.yavdocsil.proofs.Calling.{short-answer, short-leaves, called-answer, called-leaves}
use Rattle.yavdocsil.proofs.order.yav_swap.Goals as goal

pub returns-then-words-lt-WORDS : goal.returns-then-words-lt-WORDS
returns-then-words-lt-WORDS c =
    let r = c.answer_word in
    let i = c.if-words-lt-WORDS in
    let a = c.args in
    let short = short-leaves a.words.now i.true in record {
      answer = short-answer a.words.now i.true _ r.result r.ensures;
      words = short _ _;
    }

pub settle-requires : goal.settle-requires
settle-requires c =
    let k = c.swap-outcome in
    let s = c.read_state in
    let i = c.if-words-lt-WORDS in
    let a = c.args in (
      i.false,
      subst (λ (o : Outcome). Small (answer_of o)) (sym k.ensures)
          (swap-small s.result a.level),
    )

pub returns : goal.returns
returns c =
    let r = c.settle in
    let k = c.swap-outcome in
    let s = c.read_state in
    let i = c.if-words-lt-WORDS in
    let a = c.args in
    let leaves-as = called-leaves a.words.now i.false s.result s.ensures in record {
      answer = called-answer a.words.now i.false s.result s.ensures _ r.result (answer_of k.result) r.ensures.answer
          (ap answer_of k.ensures);
      words = leaves-as _ _ _ (r.ensures.words ∙ ap (λ (o : Outcome). words_after o a.words.now) k.ensures);
    }
