-- `yavdocsil::answer::settle` meets its contract: only a success is written.
-- Assumes nothing.
use Rattle.std.specs.Prelude.{Ok, Err}
use mathlib.Core.Path.{refl, sym, ap, ◌∙◌}
use mathlib.Core.Bool.{true≢false}
use Rattle.yavdocsil.specs.Called.{words_after}
use Rattle.yavdocsil.proofs.AnswerWords.{word-success, read_off}
use Rattle.yavdocsil.proofs.answer.settle.Goals as goal

pub returns-in-Ok-clause-words : goal.returns-in-Ok-clause-words
unfolding words_after
returns-in-Ok-clause-words c = rw c.in-Ok.is c.write_state.ensures.words

pub returns-in-Ok-clause-success : goal.returns-in-Ok-clause-success
returns-in-Ok-clause-success c h =
    let r = c.answer_word in
    ap Ok (read_off c.in-Ok.done r.result r.ensures h c.write_state.new.words c.write_state.ensures.again) ∙ sym c.in-Ok.is

pub returns-in-Err-clause-words : goal.returns-in-Err-clause-words
unfolding words_after
returns-in-Err-clause-words c = rw c.in-Err.is refl

pub returns-in-Err-clause-success : goal.returns-in-Err-clause-success
returns-in-Err-clause-success c h =
    let r = c.answer_word-in-Err in
    absurd (true≢false (sym (word-success (Err c.in-Err.refusal) r.result r.ensures h)))
