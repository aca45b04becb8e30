-- `fill::lowering::count_below` meets its contract. The loop's invariant: the levels above are counted, and the entries of e variables are
-- at hand. Assumes nothing.
use Rattle.std.proofs.Common.{◌+◌, ◌-◌}
use Rattle.matching.specs.Level.{parts_at}
use Rattle.fill.proofs.Lowered.LevelsCounted.{Counted}
use Rattle.fill.proofs.lowering.count_below.Given as goal

abbrev pub invariant-loop-e : goal.invariant-loop-e
invariant-loop-e l =
    Counted l.p l.d l.initial.counts (parts_at l.d l.initial.entries.count l.initial.entries.from l.initial.work) l.initial.work l.e
    (l.p + l.d - l.e) l.entries.from l.to l.entries.count l.work l.counts
