-- `yavdocsil::evaluate::yav_evaluate` meets its contract: 10 for a short state, else what `evaluate` answers.
-- Assumes nothing.
use mathlib.Core.Path.{sym, subst}
use Rattle.yavdocsil.proofs.SmallValues.{Small, evaluate-small}
use Rattle.yavdocsil.proofs.Calling.{short-answer, called-answer}
use Rattle.yavdocsil.proofs.evaluate.yav_evaluate.Goals as goal

pub returns-then-words-lt-WORDS : goal.returns-then-words-lt-WORDS
returns-then-words-lt-WORDS c =
    let r = c.answer_word in
    let i = c.if-words-lt-WORDS in
    let a = c.args in
    short-answer a.words.now i.true _ r.result r.ensures

pub answer_word-requires-2 : goal.answer_word-requires-2
answer_word-requires-2 c =
    let k = c.evaluate in
    let s = c.read_state in
    let a = c.args in
    subst Small (sym k.ensures) (evaluate-small s.result a.row a.roots.now a.cells.now)

pub returns : goal.returns
returns c =
    let r = c.answer_word-2 in
    let k = c.evaluate in
    let s = c.read_state in
    let i = c.if-words-lt-WORDS in
    let a = c.args in
    called-answer a.words.now i.false s.result s.ensures _ r.result k.result r.ensures k.ensures
