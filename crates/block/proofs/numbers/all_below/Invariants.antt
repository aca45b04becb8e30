-- `block::numbers::all_below` meets its contract: the numbers before the next one are below the limit.
-- Assumes nothing.
use mathlib.Core.Path.{◌≡◌}
use mathlib.Core.Bool.{true}
use Rattle.lists.specs.Lists.{all, up_to}
use Rattle.block.proofs.Elements.{below}
use Rattle.block.proofs.numbers.all_below.Given as goal

abbrev pub invariant-loop-x : goal.invariant-loop-x
invariant-loop-x l = all (below l.limit l.numbers) (up_to l.x-index) ≡ true
