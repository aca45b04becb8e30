-- `canonical::walk::numbers_rise` meets its contract: at level p the list is that of the nodes seen there, and all above it are numbered.
-- Assumes nothing.
use Rattle.canonical.proofs.Walked.{Walked}
use Rattle.canonical.proofs.walk.numbers_rise.Given as goal

abbrev pub invariant-loop-p : goal.invariant-loop-p
invariant-loop-p l = Walked l.count l.cells l.n l.roots l.m l.below l.next l.p
