-- `yavdocsil::cells::yav_write_cells` meets its contract: 10 for a short state, else what `write_cells` answers and leaves.
-- Assumes nothing.
use mathlib.Core.Path.{sym, subst}
use Rattle.yavdocsil.proofs.SmallValues.{Small, write-small}
use Rattle.yavdocsil.proofs.Calling.{short-answer, short-leaves, called-answer, called-leaves}
use Rattle.yavdocsil.proofs.cells.yav_write_cells.Goals as goal

pub returns-then-words-lt-WORDS : goal.returns-then-words-lt-WORDS
returns-then-words-lt-WORDS c =
    let r = c.answer_word in
    let i = c.if-words-lt-WORDS in
    let a = c.args in
    let short = short-leaves a.words.now i.true in record {
      answer = short-answer a.words.now i.true _ r.result r.ensures;
      work = short _ _;
      file = short _ _;
    }

pub answer_word-requires-2 : goal.answer_word-requires-2
answer_word-requires-2 c =
    let k = c.write_cells in
    let s = c.read_state in
    let a = c.args in
    subst Small (sym k.ensures.answer)
    (write-small s.result a.roots.now a.cells.now a.work.now a.file.now)

pub returns : goal.returns
returns c =
    let r = c.answer_word-2 in
    let k = c.write_cells in
    let s = c.read_state in
    let i = c.if-words-lt-WORDS in
    let a = c.args in
    let leaves-as = called-leaves a.words.now i.false s.result s.ensures in record {
      answer = called-answer a.words.now i.false s.result s.ensures _ r.result k.result r.ensures k.ensures.answer;
      work = leaves-as _ _ _ k.ensures.work;
      file = leaves-as _ _ _ k.ensures.file;
    }
