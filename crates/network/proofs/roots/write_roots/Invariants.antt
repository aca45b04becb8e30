-- `network::roots::write_roots` meets its contract: the roots before the next one are written over those lent.
-- Assumes nothing.
use Rattle.std.proofs.Common.{◌≡◌}
use Rattle.lists.specs.Written.{over}
use Rattle.network.specs.Levels.{root_at}
use Rattle.network.proofs.roots.write_roots.Given as goal

abbrev pub invariant-loop-j : goal.invariant-loop-j
invariant-loop-j l = l.root-items ≡ over (root_at l.work l.m l.below) l.j l.initial.root-items
