use native.Mathlib.Omega.{arith}
use lib.Seq.{length-take-le}
use Rattle.lists.proofs.Written.Over.{over-next}
use Rattle.table.specs.Stream.{plane_byte}
use Rattle.table.proofs.Planes.PlaneSize.{plane-size}
use Rattle.lent.specs.Tabulate.{lent_table}
use Rattle.lent.proofs.Tables.WholePlane.{plane-over}
use Rattle.lent.proofs.network.Network.write_values.Goals as goal

pub slice_bounds-byte-items-end : goal.slice_bounds-byte-items-end
slice_bounds-byte-items-end c =
    omega (arith, plane-size)

pub slice_bounds-byte-items-end-2 : goal.slice_bounds-byte-items-end-2
slice_bounds-byte-items-end-2 c =
    omega (arith, plane-size, length-take-le 2048 c.args.values.now)

pub value_byte-requires : goal.value_byte-requires
value_byte-requires c =
    omega (arith, plane-size, length-take-le 2048 c.args.values.now)

pub loop-i-preserved : goal.loop-i-preserved
loop-i-preserved c =
    let l = c.loop-i in
    let w = c.args.self.now in
    over-next (plane_byte (λ x. x.value) (lent_table w.state w.roots.now w.cells.now)) _ l.byte-items l.i c.value_byte.result
    (omega arith) l.invariant c.value_byte.ensures

pub returns : goal.returns
returns c =
    let l = c.loop-i in
    let w = c.args.self.now in
    rw plane-size
    (plane-over (plane_byte (λ x. x.value) (lent_table w.state w.roots.now w.cells.now)) 2048 c.args.values.now l.byte-items
    (omega (arith, plane-size)) l.i l.invariant (omega (arith, plane-size, length-take-le 2048 c.args.values.now)))
