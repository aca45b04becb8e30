-- `sift::moves::write_gains` meets its contract. The invariant: the row is written over as far as p. The measure is how many levels are
-- left.
-- Assumes nothing.
use mathlib.Core.Path.{◌≡◌}
use Prim.Native.Nat.{◌-◌, ◌≤◌}
use lib.ListN.{length}
use Rattle.lists.specs.Written.{over}
use Rattle.sift.specs.Inner.Counts.{counts_gain}
use Rattle.sift.proofs.moves.write_gains.Given as goal

abbrev pub invariant-loop-p : goal.invariant-loop-p
invariant-loop-p l = (l.p ≤ l.n)
    × ((l.row ≡ over (counts_gain l.present l.counts) l.p l.initial.row) × (length l.row ≡ length l.initial.row))
