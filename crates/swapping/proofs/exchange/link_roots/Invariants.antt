-- `swapping::exchange::link_roots` meets its contract: the first j roots are linked.
-- Assumes nothing.
use Rattle.std.proofs.Common.{take, map}
use Rattle.diagram.specs.Exchanging.Exchange.{both}
use Rattle.fill.specs.Work.{links_at}
use Rattle.swapping.proofs.LevelLinks.{Linked}
use Rattle.swapping.proofs.exchange.link_roots.Given as goal

abbrev pub invariant-loop-j : goal.invariant-loop-j
invariant-loop-j l = Linked (map both (take l.j l.roots)) links_at l.initial.work l.top l.work
