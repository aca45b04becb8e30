-- `fill::cells::ends_within` meets its contract. The loop's invariant: what room is left ends where the bound is, and the levels from here on
-- are left for it.
-- Assumes nothing.
use Rattle.std.proofs.Common.{◌≡◌, ◌-◌, ◌≤◌, drop}
use Rattle.fill.specs.Counts.{links_end}
use Rattle.fill.proofs.cells.ends_within.Given as goal

abbrev pub invariant-loop-pairs : goal.invariant-loop-pairs
invariant-loop-pairs l = (l.room ≤ l.end)
    × (links_end (l.end - l.room) (drop l.pairs-index l.entries) ≡ links_end l.at l.entries)
