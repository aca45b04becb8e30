use native.Mathlib.Omega.{arith}
use lib.ListN.{take, length-take}
use Rattle.lists.proofs.Written.Over.{over-next}
use Rattle.table.specs.File.{stream_byte}
use Rattle.table.proofs.Planes.PlaneSize.{plane-size, plane-written}
use Rattle.table.proofs.load.write_plane.Goals as goal

pub stream_byte-requires : goal.stream_byte-requires
stream_byte-requires c = (omega arith, omega arith, omega (arith, plane-size, length-take 2048 c.args.plane.now))

pub loop-i-preserved : goal.loop-i-preserved
loop-i-preserved c =
    let l = c.loop-i in
    let a = c.args in
    over-next (stream_byte a.file.now a.first a.blocks) (take 2048 a.plane.now) l.x-items l.i c.stream_byte.result
    (omega arith) l.invariant c.stream_byte.ensures

pub returns : goal.returns
returns c =
    let l = c.loop-i in
    let a = c.args in
    plane-written (stream_byte a.file.now a.first a.blocks) a.plane.now l.x-items l.i (omega arith) (omega arith) l.invariant
