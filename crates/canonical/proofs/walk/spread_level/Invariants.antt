-- `canonical::walk::spread_level` meets its contract: the list has what the nodes before the next one are below the level.
-- Assumes nothing.
use Rattle.std.proofs.Common.{◌≡◌, eqb, take}
use Rattle.lists.specs.Lists.{firsts}
use Rattle.canonical.specs.Inner.Walk.{lent_spread}
use Rattle.canonical.proofs.walk.spread_level.Given as goal

abbrev pub invariant-loop-k : goal.invariant-loop-k
invariant-loop-k l = l.below ≡ firsts eqb (lent_spread l.cells l.p (take l.k-index l.level))
