use mathlib.Core.Path.{ap, ◌∙◌}
use Prim.Native.Nat.{ℕ}
use native.Mathlib.Omega.{arith}
use lib.Seq.{length-take-le}
use Rattle.lists.proofs.Written.Over.{over-next}
use Rattle.table.specs.Stream.{plane_byte}
use Rattle.table.proofs.Files.Answers.{shifted-out}
use Rattle.table.proofs.Planes.PlaneSize.{plane-size}
use Rattle.lent.specs.Tabulate.{lent_table}
use Rattle.lent.specs.Inner.Tabulate.{ones_byte}
use Rattle.lent.proofs.Tables.Tabulating.{ones-care}
use Rattle.lent.proofs.Tables.WholePlane.{plane-over}
use Rattle.lent.proofs.network.Network.write_care.Goals as goal

pub overflow_shl-end : goal.overflow_shl-end
overflow_shl-end c =
    omega (arith, c.args.self.now.evaluable.followable.levelled.few)

pub slice_bounds-byte-items-end : goal.slice_bounds-byte-items-end
slice_bounds-byte-items-end c =
    omega (arith, plane-size)

pub slice_bounds-byte-items-end-2 : goal.slice_bounds-byte-items-end-2
slice_bounds-byte-items-end-2 c =
    omega (arith, plane-size, length-take-le 2048 c.args.care.now)

pub ones_byte-requires : goal.ones_byte-requires
ones_byte-requires c =
    omega (arith, plane-size, length-take-le 2048 c.args.care.now)

pub loop-i-preserved : goal.loop-i-preserved
loop-i-preserved c =
    let l = c.loop-i in
    let w = c.args.self.now in
    let s = w.state in
    over-next (plane_byte (λ x. x.care) (lent_table s w.roots.now w.cells.now)) _ l.byte-items l.i c.ones_byte.result
    (omega arith) l.invariant
    (c.ones_byte.ensures
    ∙ ap (λ (k : ℕ). ones_byte k l.i) (shifted-out s.n s.m w.evaluable.followable.levelled.few w.evaluable.rooted.few)
    ∙ ones-care s w.roots.now w.cells.now l.i)

pub returns : goal.returns
returns c =
    let l = c.loop-i in
    let w = c.args.self.now in
    rw plane-size
    (plane-over (plane_byte (λ x. x.care) (lent_table w.state w.roots.now w.cells.now)) 2048 c.args.care.now l.byte-items
    (omega (arith, plane-size)) l.i l.invariant (omega (arith, plane-size, length-take-le 2048 c.args.care.now)))
