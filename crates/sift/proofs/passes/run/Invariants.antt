-- `sift::passes::run` meets its contract. The invariant: what is held is the pass after as many turns, and the work buffer is as the count
-- left it, zero.
-- Assumes nothing.
use mathlib.Core.Path.{◌≡◌}
use Rattle.sift.proofs.Passing.PassUnderWay.{Running}
use Rattle.sift.proofs.passes.run.Given as goal

abbrev pub invariant-loop-turns : goal.invariant-loop-turns
invariant-loop-turns l =
    record {
      running : Running l.fn.state l.limit l.values l.care l.progress;
      turns : l.progress.turns ≡ l.turns;
      work : l.work ≡ l.initial.work;
    }
