-- `network_file::blocks::write_check` meets its contract.
-- Assumes nothing.
use mathlib.Core.Path.{ap₂}
use Prim.Native.Nat.{ℕ, ◌+◌, ◌*◌}
use native.Mathlib.Omega.{arith}
use lib.ListN.{set, length-set}
use Rattle.block.specs.Block.{block_size, check_at}
use Rattle.network_file.proofs.blocks.write_check.Goals as goal

pub bounds-file-at-2 : goal.bounds-file-at-2
bounds-file-at-2 c =
    simp length-set (omega arith)

pub returns : goal.returns
returns c =
    let a = c.args in
    let n = block_size * a.k + check_at in
    ap₂ (λ (x y : ℕ). set (set a.file.now n x) (n + 1) y) c.number_byte.ensures c.number_byte-2.ensures
