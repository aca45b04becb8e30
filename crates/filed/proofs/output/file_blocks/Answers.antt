-- `filed::output::file_blocks` meets its contract.
-- Assumes nothing.
use native.Mathlib.Omega.{arith}
use Rattle.filed.proofs.FiledCases.{blocks-few, blocks-most}
use Rattle.filed.proofs.output.file_blocks.Goals as goal

pub returns-then-count-gt-NODES : goal.returns-then-count-gt-NODES
returns-then-count-gt-NODES c =
    blocks-most c.args.count (omega arith)

pub returns : goal.returns
returns c =
    blocks-few c.args.count (omega arith)
