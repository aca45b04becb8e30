-- `yavdocsil::order::yav_sift` meets its contract: what `sift` owes of its outcome is carried to the answer and the words.
-- Assumes nothing.
use mathlib.Core.Path.{sym, ap, ◌∙◌, subst}
use Rattle.table.specs.Answer.{Outcome, answer_of}
use Rattle.sift.specs.Calls.{SiftDemand, SiftNeverDearer}
use Rattle.yavdocsil.specs.Words.{state_from}
use Rattle.yavdocsil.specs.Called.{words_after, success}
use Rattle.yavdocsil.proofs.SmallValues.{Small, sift-small}
use Rattle.yavdocsil.proofs.Calling.{short-answer, short-leaves, short-refused, called-answer, called-leaves, carried}
use Rattle.yavdocsil.proofs.order.yav_sift.Goals as goal

pub returns-then-words-lt-WORDS : goal.returns-then-words-lt-WORDS
returns-then-words-lt-WORDS c =
    let r = c.answer_word in
    let i = c.if-words-lt-WORDS in
    let a = c.args in
    let short = short-leaves a.words.now i.true in record {
      answer = short-answer a.words.now i.true _ r.result r.ensures;
      words = short _ _;
      work = short _ _;
      demand = short-refused a.words.now i.true r.result r.ensures;
      never_dearer = short-refused a.words.now i.true r.result r.ensures;
    }

pub settle-requires : goal.settle-requires
settle-requires c =
    let k = c.sift-outcome in
    let s = c.read_state in
    let i = c.if-words-lt-WORDS in
    let a = c.args in (
      i.false,
      subst (λ (o : Outcome). Small (answer_of o)) (sym k.ensures.outcome)
          (sift-small s.result a.values.now a.care.now a.work.now a.variable),
    )

pub returns : goal.returns
returns c =
    let r = c.settle in
    let k = c.sift-outcome in
    let s = c.read_state in
    let i = c.if-words-lt-WORDS in
    let a = c.args in
    let leaves-as = called-leaves a.words.now i.false s.result s.ensures in record {
      answer = called-answer a.words.now i.false s.result s.ensures _ r.result (answer_of k.result) r.ensures.answer
          (ap answer_of k.ensures.outcome);
      words = leaves-as _ _ _ (r.ensures.words ∙ ap (λ (o : Outcome). words_after o a.words.now) k.ensures.outcome);
      work = leaves-as _ _ _ k.ensures.work;
      demand = λ h. carried s.result (state_from a.words.now) s.ensures k.result (success r.result _) (r.ensures.success h)
          (λ t o. SiftDemand a.variable a.values.now a.care.now o) k.ensures.demand;
      never_dearer = λ h. carried s.result (state_from a.words.now) s.ensures k.result (success r.result _) (r.ensures.success h)
          (λ t o. SiftNeverDearer t a.values.now a.care.now o) k.ensures.never_dearer;
    }
