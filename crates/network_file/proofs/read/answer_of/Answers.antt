-- `network_file::read::answer_of` meets its contract: each answer by the tests that led to it.
-- Assumes nothing.
use mathlib.Core.Path.{◌≡◌, refl, sym, ap, ◌∙◌}
use mathlib.Core.Bool.{true}
use borrow.Author.Tests.{not-true, not-false}
use native.Mathlib.Omega.{arith}
use Rattle.std.proofs.lemmas.Result.{err_from_is_err_and}
use Rattle.table.specs.Answer.{done}
use Rattle.network.specs.Build.{long_enough}
use Rattle.network_file.specs.File.{network_file_answer}
use Rattle.network_file.proofs.Reading.ReadAnswer.{short, file-refused, small-board, last-tests}
use Rattle.network_file.proofs.read.answer_of.Goals as goal
use Rattle.network_file.proofs.read.answer_of.Goals.{In_ok-file_answer, Else-not-long_enough}

-- no buffer is short
long : (c : Else-not-long_enough)
    → let a = c.args in
    long_enough a.values.now a.care.now a.work.now a.roots.now ≡ true
long c = sym c.long_enough.ensures ∙ not-false _ c.if-not-long_enough.false-raw

-- and the file is good
good : (c : In_ok-file_answer)
    → done (network_file_answer c.args.file.now) ≡ true
good c = ap done (sym c.file_answer.ensures ∙ c.in_ok-file_answer.was)

pub returns-then-not-long_enough : goal.returns-then-not-long_enough
returns-then-not-long_enough c =
    let a = c.args in
    short a.file.now a.values.now a.care.now a.work.now a.roots.now a.cells.now
    (sym c.long_enough.ensures ∙ not-true _ c.if-not-long_enough.true-raw)

pub returns-in_err-file_answer : goal.returns-in_err-file_answer
returns-in_err-file_answer c =
    let p = err_from_is_err_and c.from_residual.result c.from_residual.ensures.1 in
    let a = c.args in
    rw (p.1, p.2)
    (file-refused a.file.now a.values.now a.care.now a.work.now a.roots.now a.cells.now
    (long (goal.at.returns-in_err-file_answer c).Else-not-long_enough)
    _ (sym c.in_err-file_answer.was ∙ c.file_answer.ensures) refl)

pub returns-then-cells-count : goal.returns-then-cells-count
returns-then-cells-count c =
    let a = c.args in
    let k = c.file_count-count in
    small-board a.file.now a.values.now a.care.now a.work.now a.roots.now a.cells.now
    (long (goal.at.returns-then-cells-count c).Else-not-long_enough)
    (good (goal.at.returns-then-cells-count c).In_ok-file_answer) k.result k.ensures.0 c.if-cells-count.true

pub checked_answer-requires : goal.checked_answer-requires
checked_answer-requires c =
    good (goal.at.checked_answer-requires c).In_ok-file_answer

pub returns : goal.returns
returns c =
    let a = c.args in
    let k = c.file_count-count in
    c.checked_answer.ensures
    ∙ last-tests a.file.now a.values.now a.care.now a.work.now a.roots.now a.cells.now
    (long (goal.at.returns c).Else-not-long_enough)
    (good (goal.at.returns c).In_ok-file_answer) (omega (arith, c.if-cells-count.false, k.ensures.0))
