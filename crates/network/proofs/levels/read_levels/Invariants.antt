-- `network::levels::read_levels` meets its contract: from the lowest level up, what the levels below make.
-- Assumes nothing.
use mathlib.Core.Path.{◌≡◌}
use Prim.Native.Nat.{◌-◌}
use lib.ListN.{get_or}
use Rattle.lists.specs.Sums.{sum_below}
use Rattle.network.specs.Levels.{made, level_at, levels_made}
use Rattle.network.proofs.levels.read_levels.Given as goal

abbrev pub invariant-loop-p : goal.invariant-loop-p
invariant-loop-p l = record {
  begins : l.below ≡ level_at l.m l.entries l.p;
  above : l.base ≡ sum_below (λ q. get_or l.counts q 0) l.p;
  work : l.work ≡ (levels_made l.m l.entries l.counts l.p (l.n - l.p) (made l.initial.work l.initial.cells 0)).work;
  cells : l.cells ≡ (levels_made l.m l.entries l.counts l.p (l.n - l.p) (made l.initial.work l.initial.cells 0)).cells;
}
