-- `network::levels::read_level` meets its contract: after j turns, what j entries make.
-- Assumes nothing.
use mathlib.Core.Path.{◌≡◌}
use Rattle.network.specs.Levels.{made, level_made}
use Rattle.network.proofs.levels.read_level.Given as goal

abbrev pub invariant-loop-j : goal.invariant-loop-j
invariant-loop-j l =
    made l.work l.cells l.next ≡ level_made l.p l.below l.i l.j (made l.initial.work l.initial.cells l.base)
