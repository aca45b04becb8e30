use native.Mathlib.Omega.{arith}
use Prim.Native.Nat.{◌*◌}
use lib.ListN.{take}
use Rattle.lists.proofs.Written.Over.{over-next}
use Rattle.network_file.specs.File.{cell_number}
use Rattle.network_file.proofs.copy.copy_cells.Goals as goal

pub loop-x-preserved : goal.loop-x-preserved
loop-x-preserved c =
    let a = c.args in
    let l = c.loop-x in
    over-next (cell_number a.file.now) (take (3 * a.count) a.cells.now) l.number-items l.x c.cell_number.result (omega arith) l.invariant
    c.cell_number.ensures.0
