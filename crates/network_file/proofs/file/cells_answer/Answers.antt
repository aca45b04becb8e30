-- `network_file::file::cells_answer` meets its contract: the block total, then the blocks.
-- Assumes nothing.
use native.Mathlib.Omega.{arith}
use Rattle.network_file.proofs.Format.FileSizes.{few-blocks}
use Rattle.network_file.proofs.Reading.BlockRead.{wrong-total, right-total}
use Rattle.network_file.proofs.file.cells_answer.Goals as goal

pub overflow_add-blocks : goal.overflow_add-blocks
overflow_add-blocks c =
    omega (arith, few-blocks c.args.count (omega arith))

pub overflow_mul-blocks : goal.overflow_mul-blocks
overflow_mul-blocks c =
    omega (arith, few-blocks c.args.count (omega arith))

pub returns-then-file-blocks : goal.returns-then-file-blocks
returns-then-file-blocks c =
    let b = c.blocks_for-blocks in
    let a = c.args in
    wrong-total a.file.now a.count b.result b.ensures c.if-file-blocks.true

pub blocks_answer-requires : goal.blocks_answer-requires
blocks_answer-requires c =
    let a = c.args in
    omega (arith, few-blocks a.count (omega arith))

pub returns : goal.returns
returns c =
    let b = c.blocks_for-blocks in
    let a = c.args in
    right-total a.file.now a.count b.result b.ensures c.blocks_answer.result c.if-file-blocks.false
    c.blocks_answer.ensures
