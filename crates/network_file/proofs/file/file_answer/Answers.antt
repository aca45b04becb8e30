-- `network_file::file::file_answer` meets its contract: each answer by the tests that led to it.
-- Assumes nothing.
use mathlib.Core.Path.{◌≡◌, refl, sym, ap, ◌∙◌}
use mathlib.Core.Bool.{true}
use borrow.Author.Tests.{not-true, not-false}
use Rattle.block.specs.Block.{whole_blocks}
use Rattle.std.specs.Prelude.{Ok}
use Rattle.std.proofs.lemmas.Result.{err_from_is_err_and}
use Rattle.network_file.specs.File.{network_heading, cells_answer, network_file_answer}
use Rattle.network_file.proofs.Reading.BlockRead.{read-heading}
use Rattle.network_file.proofs.file.file_answer.Goals as goal
use Rattle.network_file.proofs.file.file_answer.Goals.{In_ok-block_answer, Else-not-whole_blocks}

whole : (c : Else-not-whole_blocks) → whole_blocks c.args.file.now ≡ true
whole c = sym c.whole_blocks.ensures ∙ not-false _ c.if-not-whole_blocks.false-raw

-- block 0's answer is the heading's
passed : (c : In_ok-block_answer) → network_heading c.args.file.now ≡ Ok c.in_ok-block_answer.field-0
passed c = sym (c.block_answer.ensures ∙ read-heading 0 c.args.file.now) ∙ c.in_ok-block_answer.was

pub returns-then-not-whole_blocks : goal.returns-then-not-whole_blocks
unfolding network_file_answer
returns-then-not-whole_blocks c =
    rw (sym c.whole_blocks.ensures ∙ not-true _ c.if-not-whole_blocks.true-raw)

pub returns-in_err-block_answer : goal.returns-in_err-block_answer
unfolding network_file_answer
returns-in_err-block_answer c =
    let p = err_from_is_err_and c.from_residual.result c.from_residual.ensures.1 in
    rw (
      p.1,
      p.2,
      whole (goal.at.returns-in_err-block_answer c).Else-not-whole_blocks,
      sym (c.block_answer.ensures ∙ read-heading 0 c.args.file.now) ∙ c.in_err-block_answer.was,
    ) refl

pub returns : goal.returns
unfolding network_file_answer
returns c =
    rw (whole (goal.at.returns c).Else-not-whole_blocks, passed (goal.at.returns c).In_ok-block_answer)
    (c.cells_answer.ensures ∙ ap (cells_answer c.args.file.now) c.file_count.ensures.0)
