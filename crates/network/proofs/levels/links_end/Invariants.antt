-- `network::levels::links_end` meets its contract: the end so far is where the level begins.
-- Assumes nothing.
use mathlib.Core.Path.{◌≡◌}
use Rattle.network.specs.Levels.{level_at}
use Rattle.network.proofs.levels.links_end.Given as goal

abbrev pub invariant-loop-e : goal.invariant-loop-e
invariant-loop-e l = l.end ≡ level_at l.m l.fn.entries l.e-index
