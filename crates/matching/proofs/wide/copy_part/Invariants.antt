-- `matching::wide::copy_part` meets its contract: the bytes so far are the part's.
-- Assumes nothing.
use mathlib.Core.Path.{◌≡◌}
use lib.ListN.{length, take}
use Rattle.matching.proofs.wide.copy_part.Given as goal

abbrev pub invariant-loop-i : goal.invariant-loop-i
invariant-loop-i l = (length l.entry ≡ length l.part) × (take l.i l.entry ≡ take l.i l.part)
