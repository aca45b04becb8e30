-- `table::file::streams_answer` meets its contract.
-- Assumes nothing.
use mathlib.Core.Path.{◌≡◌}
use native.Mathlib.Omega.{arith}
use Rattle.table.specs.File.{stream_blocks}
use Rattle.table.proofs.Files.Answers.{stream-small, shifted-out, few-blocks, blocks-for-is}
use Rattle.table.proofs.file.streams_answer.Goals as goal
use Rattle.table.proofs.file.streams_answer.Goals.{After-blocks_for-blocks}

the-blocks : (c : After-blocks_for-blocks) → c.blocks_for-blocks.result ≡ stream_blocks c.args.n c.args.m
the-blocks c =
    let a = c.args in
    blocks-for-is a.n a.m c.blocks_for-blocks.result (omega arith) (omega arith) c.blocks_for-blocks.ensures

pub blocks_for-blocks-requires : goal.blocks_for-blocks-requires
blocks_for-blocks-requires c =
    let a = c.args in
    omega (arith, shifted-out a.n a.m (omega arith) (omega arith), stream-small a.n a.m (omega arith) (omega arith))

pub blocks_answer-requires : goal.blocks_answer-requires
blocks_answer-requires c =
    let a = c.args in
    omega (arith, the-blocks (goal.at.blocks_answer-requires c).After-blocks_for-blocks, few-blocks a.n a.m (omega arith) (omega arith))
