-- `swapping::exchange::link_levels` meets its contract: the levels before level q are linked, and `below` has the entries of level q.
-- Assumes nothing.
use Rattle.std.proofs.Common.{map}
use Rattle.diagram.specs.Exchanging.Exchange.{both}
use Rattle.swapping.specs.Inner.Exchange.{lent_at}
use Rattle.swapping.proofs.AllLinks.{Linking}
use Rattle.swapping.proofs.exchange.link_levels.Given as goal

abbrev pub invariant-loop-q : goal.invariant-loop-q
invariant-loop-q l =
    Linking (lent_at l.cells) l.p (map both l.roots) l.initial.work l.initial.at l.q l.below l.work l.entries l.at
