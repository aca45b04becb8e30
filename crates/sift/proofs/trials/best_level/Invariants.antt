-- `sift::trials::best_level` meets its contract. The invariant: what is held is the best after p trials, all counted. The measure is the
-- number of levels left.
-- Assumes nothing.
use mathlib.Core.Path.{◌≡◌}
use Prim.Native.Nat.{◌-◌, ◌≤◌}
use Rattle.table.specs.State.{order_of}
use Rattle.fill.specs.Calls.{held_table}
use Rattle.sift.proofs.Trying.BestLevel.{after_trials}
use Rattle.sift.proofs.trials.best_level.Given as goal

abbrev pub invariant-loop-p : goal.invariant-loop-p
invariant-loop-p l = (l.p ≤ l.fn.table.state.n) × (l.best ≡ after_trials (held_table l.fn.table.state l.table.values.now l.table.care.now) l.v (order_of l.fn.table.state) l.p)
