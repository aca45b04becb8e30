-- The invariant: the first i bytes of both planes are gathered, and the others are as they were. Assumes nothing.
use Rattle.std.proofs.Common.{◌≡◌}
use Rattle.lists.specs.Written.{over}
use Rattle.reorder.specs.Gather.{gathered_byte}
use Rattle.reorder.proofs.gather.gather.Given as goal

abbrev pub invariant-loop-i : goal.invariant-loop-i
invariant-loop-i l =
    (l.values ≡ over (gathered_byte l.planes.values.now l.base l.map l.k) l.i l.initial.values)
    × (l.care ≡ over (gathered_byte l.planes.care.now l.base l.map l.k) l.i l.initial.care)
