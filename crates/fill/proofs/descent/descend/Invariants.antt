-- `fill::descent::descend` meets its contract. The loop's invariant: the entries of d variables lie in one region, all else of the regions
-- is zero, and the links so far, with those of the levels below, are all. Assumes nothing.
use Rattle.matching.specs.Level.{parts_at}
use Rattle.fill.specs.Inner.Descent.{links_up_to}
use Rattle.fill.proofs.Descents.WayDown.{Going}
use Rattle.fill.proofs.descent.descend.Given as goal

abbrev pub invariant-loop-d : goal.invariant-loop-d
invariant-loop-d l =
    Going l.n (parts_at l.n l.count 0 l.initial.work) (links_up_to l.links l.initial.work) l.initial.work l.d
    l.entries.from l.at l.entries.count l.work l.counts
