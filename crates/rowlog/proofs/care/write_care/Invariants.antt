-- The loop's invariant of `rowlog::care::write_care`: the plane is written over as far as byte i.
-- Assumes nothing.
use Rattle.std.proofs.Common.{◌≡◌}
use Rattle.lists.specs.Written.{over}
use Rattle.rowlog.specs.Inner.Care.{counted_byte}
use Rattle.rowlog.proofs.care.write_care.Given as goal

abbrev pub invariant-loop-i : goal.invariant-loop-i
invariant-loop-i l = l.plane ≡ over (counted_byte l.counts l.least l.n l.end) l.i l.initial.plane
