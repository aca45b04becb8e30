-- `swapping::exchange::link_level` meets its contract: the halves of the first j entries are linked.
-- Assumes nothing.
use Rattle.std.proofs.Common.{take}
use Rattle.diagram.specs.Exchanging.Exchange.{half_pairs}
use Rattle.swapping.specs.Inner.Exchange.{lent_at}
use Rattle.swapping.proofs.LevelLinks.{Linked}
use Rattle.swapping.proofs.exchange.link_level.Given as goal

abbrev pub invariant-loop-j : goal.invariant-loop-j
invariant-loop-j l = Linked (half_pairs (lent_at l.cells) l.p l.q (take l.j l.level)) l.at l.initial.work l.below l.work
