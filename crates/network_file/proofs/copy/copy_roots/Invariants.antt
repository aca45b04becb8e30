-- `network_file::copy::copy_roots` meets its contract: the roots so far are written over those lent.
-- Assumes nothing.
use mathlib.Core.Path.{◌≡◌}
use Rattle.lists.specs.Written.{over}
use Rattle.network_file.specs.File.{file_root}
use Rattle.network_file.proofs.copy.copy_roots.Given as goal

abbrev pub invariant-loop-j : goal.invariant-loop-j
invariant-loop-j l = l.root-items ≡ over (file_root l.file) l.j l.initial.root-items
