-- `yavdocsil::evaluate::yav_evaluate_rows` meets its contract: 10 for a short state, else what `evaluate_rows` answers and leaves.
-- Assumes nothing.
use mathlib.Core.Path.{sym, subst}
use Rattle.lent.specs.Rows.{EachAlone}
use Rattle.yavdocsil.specs.Words.{state_from}
use Rattle.yavdocsil.proofs.SmallValues.{Small, rows-small}
use Rattle.yavdocsil.proofs.Calling.{short-answer, short-leaves, short-refused, called-answer, called-leaves, carried-answer}
use Rattle.yavdocsil.proofs.evaluate.yav_evaluate_rows.Goals as goal

pub returns-then-words-lt-WORDS : goal.returns-then-words-lt-WORDS
returns-then-words-lt-WORDS c =
    let r = c.answer_word in
    let i = c.if-words-lt-WORDS in
    let a = c.args in record {
      answer = short-answer a.words.now i.true _ r.result r.ensures;
      answers = short-leaves a.words.now i.true _ _;
      alone = short-refused a.words.now i.true r.result r.ensures;
    }

pub answer_word-requires-2 : goal.answer_word-requires-2
answer_word-requires-2 c =
    let k = c.evaluate_rows in
    let s = c.read_state in
    let a = c.args in
    subst Small (sym k.ensures.answer)
    (rows-small s.result a.rows.now a.answers.now a.roots.now a.cells.now)

pub returns : goal.returns
returns c =
    let r = c.answer_word-2 in
    let k = c.evaluate_rows in
    let s = c.read_state in
    let i = c.if-words-lt-WORDS in
    let a = c.args in
    let words = a.words.now in record {
      answer = called-answer words i.false s.result s.ensures _ r.result k.result r.ensures k.ensures.answer;
      answers = called-leaves words i.false s.result s.ensures _ _ _ k.ensures.answers;
      alone = λ h. carried-answer s.result (state_from words) s.ensures k.result r.result r.ensures h
          (λ t. EachAlone t a.rows.now a.roots.now a.cells.now k.new.answers) k.ensures.alone;
    }
