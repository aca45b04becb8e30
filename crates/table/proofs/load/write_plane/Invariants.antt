-- `table::load::write_plane` meets its contract. The loop's invariant: the plane is written over as far as byte i.
-- Assumes nothing.
use mathlib.Core.Path.{◌≡◌}
use Rattle.lists.specs.Written.{over}
use Rattle.table.specs.File.{stream_byte}
use Rattle.table.proofs.load.write_plane.Given as goal

abbrev pub invariant-loop-i : goal.invariant-loop-i
invariant-loop-i l = l.x-items ≡ over (stream_byte l.file l.first l.blocks) l.i l.initial.x-items
