-- `network_file::blocks::write_byte` meets its contract.
-- Assumes nothing.
use mathlib.Core.Path.{ap, ap₂}
use Prim.Native.Nat.{ℕ, ◌+◌, ◌*◌, ◌≤◌}
use native.Mathlib.Numerals.{add-one}
use native.Mathlib.Omega.{arith}
use lib.ListN.{set}
use Rattle.block.specs.Block.{block_size, check_at}
use Rattle.block.proofs.Check.{weight-most}
use Rattle.network_file.proofs.blocks.write_byte.Goals as goal
use Rattle.network_file.proofs.blocks.write_byte.Goals.{After-content_byte-x}

-- what the byte adds is small
weight : (c : After-content_byte-x)
    → let a = c.args in (a.i + 1) * c.content_byte-x.result ≤ check_at * 255
weight c = let a = c.args in weight-most a.i c.content_byte-x.result (omega arith) (omega arith)

pub overflow_mul-result : goal.overflow_mul-result
overflow_mul-result c =
    omega (arith, weight (goal.at.overflow_mul-result c).After-content_byte-x)

pub returns : goal.returns
returns c =
    let a = c.args in
    let x = c.content_byte-x in record {
      sum = (ap₂ ◌*◌ (add-one a.i) x.ensures, weight (goal.at.returns c).After-content_byte-x);
      file = ap (λ (y : ℕ). set a.file.now (block_size * a.k + a.i) y) x.ensures;
    }
