-- `canonical::walk::standing_from` meets its contract: those of the nodes before the next one that stand at the level are the next ones.
-- Assumes nothing.
use Rattle.canonical.proofs.Standing.{Follows}
use Rattle.canonical.proofs.walk.standing_from.Given as goal

abbrev pub invariant-loop-node : goal.invariant-loop-node
invariant-loop-node l = Follows l.cells l.p l.next l.level l.node-index l.after
