use native.Mathlib.Omega.{arith}
use lib.ListN.{take}
use Rattle.lists.proofs.Written.Over.{over-next}
use Rattle.network_file.specs.File.{file_root}
use Rattle.network_file.proofs.copy.copy_roots.Goals as goal

pub loop-j-preserved : goal.loop-j-preserved
loop-j-preserved c =
    let a = c.args in
    let l = c.loop-j in
    over-next (file_root a.file.now) (take 16 a.roots.now) l.root-items l.j c.file_root.result (omega arith) l.invariant
    c.file_root.ensures.0
