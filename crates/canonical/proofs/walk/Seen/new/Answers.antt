-- `canonical::walk::Seen::new` meets its contract: no mark is the first stamp.
-- Assumes nothing.
use Rattle.std.proofs.Common.{arith}
use Rattle.canonical.proofs.Listed.{listed-zeros}
use Rattle.canonical.proofs.walk.Seen.new.Goals as goal

pub invariant_of-result : goal.invariant_of-result
invariant_of-result c = (omega arith, listed-zeros)
