-- `canonical::walk::spread_roots` meets its contract: the list has what the roots before the next one are to.
-- Assumes nothing.
use Rattle.std.proofs.Common.{◌≡◌, true, eqb, take}
use Rattle.lists.specs.Lists.{firsts}
use Rattle.diagram.specs.Canonical.Structure.{all_targets}
use Rattle.canonical.proofs.walk.spread_roots.Given as goal

abbrev pub invariant-loop-r : goal.invariant-loop-r
invariant-loop-r l = l.top ≡ firsts eqb (all_targets true (take l.r-index l.roots))
