-- `yavdocsil::moves::yav_moves` meets its contract: 10 for a short state, else what `moves` answers, leaves and owes.
-- Assumes nothing.
use mathlib.Core.Path.{sym, subst}
use Rattle.sift.specs.Moves.{Reported}
use Rattle.yavdocsil.specs.Words.{state_from}
use Rattle.yavdocsil.proofs.SmallValues.{Small, moves-small}
use Rattle.yavdocsil.proofs.Calling.{short-answer, short-leaves, short-refused, called-answer, called-leaves, carried-answer}
use Rattle.yavdocsil.proofs.moves.yav_moves.Goals as goal

pub returns-then-words-lt-WORDS : goal.returns-then-words-lt-WORDS
returns-then-words-lt-WORDS c =
    let r = c.answer_word in
    let i = c.if-words-lt-WORDS in
    let words = c.args.words.now in record {
      answer = short-answer words i.true _ r.result r.ensures;
      gains = short-leaves words i.true _ _;
      work = short-leaves words i.true _ _;
      reported = short-refused words i.true r.result r.ensures;
    }

pub answer_word-requires-2 : goal.answer_word-requires-2
answer_word-requires-2 c =
    let k = c.moves in
    let s = c.read_state in
    let a = c.args in
    subst Small (sym k.ensures.answer)
    (moves-small s.result a.values.now a.care.now a.work.now a.gains.now)

pub returns : goal.returns
returns c =
    let r = c.answer_word-2 in
    let k = c.moves in
    let s = c.read_state in
    let i = c.if-words-lt-WORDS in
    let a = c.args in
    let words = a.words.now in record {
      answer = called-answer words i.false s.result s.ensures _ r.result k.result r.ensures k.ensures.answer;
      gains = called-leaves words i.false s.result s.ensures _ _ _ k.ensures.gains;
      work = called-leaves words i.false s.result s.ensures _ _ _ k.ensures.work;
      reported = λ h. carried-answer s.result (state_from words) s.ensures k.result r.result r.ensures h
          (λ t. Reported t a.values.now a.care.now a.work.now k.new.gains) k.ensures.reported;
    }
