-- `table::file::file_answer` meets its contract: each answer by the tests that led to it. A heading that is taken has a small n and m.
-- Assumes nothing.
use mathlib.Core.Path.{◌≡◌, refl, sym, ap, ap₂, ◌∙◌}
use mathlib.Core.Bool.{true}
use borrow.Author.Tests.{not-false}
use native.Mathlib.Omega.{arith}
use Rattle.std.specs.Prelude.{Ok}
use Rattle.std.proofs.lemmas.Result.{err_from_is_err_and}
use Rattle.lists.proofs.Bools.{to-T}
use Rattle.block.specs.Block.{whole_blocks}
use Rattle.table.specs.Answer.{done}
use Rattle.table.specs.File.{heading_answer, streams_answer, file_answer}
use Rattle.table.proofs.Files.Accepted.{AcceptedHeading, accepted-heading}
use Rattle.table.proofs.Files.Reader.{read-heading}
use Rattle.table.proofs.file.file_answer.Goals as goal
use Rattle.table.proofs.file.file_answer.Goals.{In_ok-block_answer, Else-not-whole_blocks}

whole : (c : Else-not-whole_blocks) → whole_blocks c.args.file.now ≡ true
whole c = sym c.whole_blocks.ensures ∙ not-false _ c.if-not-whole_blocks.false-raw

-- block 0's answer is the heading's
passed : (c : In_ok-block_answer) → heading_answer c.args.file.now ≡ Ok c.in_ok-block_answer.field-0
passed c = sym (c.block_answer.ensures ∙ read-heading 0 c.args.file.now) ∙ c.in_ok-block_answer.was

taken : (c : In_ok-block_answer) → AcceptedHeading c.args.file.now
taken c = accepted-heading c.args.file.now (to-T (ap done (passed c)))

pub returns-in_err-block_answer : goal.returns-in_err-block_answer
unfolding file_answer
returns-in_err-block_answer c =
    let p = err_from_is_err_and c.from_residual.result c.from_residual.ensures.1 in
    rw (
      p.1,
      p.2,
      whole (goal.at.returns-in_err-block_answer c).Else-not-whole_blocks,
      sym (c.block_answer.ensures ∙ read-heading 0 c.args.file.now) ∙ c.in_err-block_answer.was,
    ) refl

pub streams_answer-requires : goal.streams_answer-requires
streams_answer-requires c =
    let h = (taken (goal.at.streams_answer-requires c).In_ok-block_answer).shape in
    (omega (arith, h.inputs, c.byte.ensures.0), omega (arith, h.outputs, c.byte-2.ensures.0))

pub returns : goal.returns
unfolding file_answer
returns c =
    rw (whole (goal.at.returns c).Else-not-whole_blocks, passed (goal.at.returns c).In_ok-block_answer)
    (c.streams_answer.ensures
    ∙ ap₂ (streams_answer c.args.file.now) c.byte.ensures.0 c.byte-2.ensures.0)
