-- `fill::lowering::try_held` meets its contract. The loop's invariant: the variable has stood at the levels above p, and the kept entries
-- have it on top. Assumes nothing.
use Rattle.std.proofs.Common.{◌-◌}
use Rattle.fill.proofs.Lowered.Trials.{Trial}
use Rattle.fill.proofs.lowering.try_held.Given as goal

abbrev pub invariant-loop-p : goal.invariant-loop-p
invariant-loop-p l =
    Trial l.fn.state l.except l.values l.care l.initial.counts l.initial.work (l.n - l.p) l.p l.kept.entries.from
    l.kept.entries.count l.kept.above l.work l.counts
