-- `block::block::Block::check_of` meets its contract: the sum over the bytes before the check, modulo 65,521.
-- Assumes nothing.
use native.Mathlib.Omega.{arith}
use Rattle.block.proofs.Check.{check-is}
use Rattle.block.proofs.block.Block.check_of.Goals as goal

pub returns : goal.returns
returns c =
    let b = c.args.self in
    check-is b.file.now b.number c.loop-i.i c.loop-i.total (omega arith) c.loop-i.invariant.0
