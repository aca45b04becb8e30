-- `rowlog::care::write_care` meets its contract. Assumes nothing.
use Rattle.std.proofs.Common.{◌≡◌, ◌∙◌, sym, ap, arith, take, drop, List, ℕ, ◌++◌}
use lib.Seq.{length-take-le}
use Rattle.lists.specs.Written.{over}
use Rattle.lists.proofs.Written.Over.{over-next}
use Rattle.table.proofs.Planes.PlaneSize.{plane-size}
use Rattle.rowlog.specs.Inner.Care.{counted_byte}
use Rattle.rowlog.proofs.Caring.{over-front}
use Rattle.rowlog.proofs.care.write_care.Goals as goal

pub slice_bounds-plane-end : goal.slice_bounds-plane-end
slice_bounds-plane-end c = omega (arith, plane-size, c.requires.1)

pub slice_bounds-plane-end-2 : goal.slice_bounds-plane-end-2
slice_bounds-plane-end-2 c = sym (length-take-le 2048 c.args.care.now (omega (arith, plane-size, c.requires.1)))

pub care_byte-requires : goal.care_byte-requires
care_byte-requires c =
    (c.requires.0, omega (arith, plane-size, length-take-le 2048 c.args.care.now (omega (arith, plane-size, c.requires.1))))

pub loop-i-preserved : goal.loop-i-preserved
loop-i-preserved c =
    let l = c.loop-i in
    let a = c.args in
    over-next (counted_byte a.counts.now a.least a.n a.end) (take 2048 a.care.now) l.plane l.i c.care_byte.result
    (omega arith) l.invariant c.care_byte.ensures

pub returns : goal.returns
returns c =
    let l = c.loop-i in
    let a = c.args in
    let long = length-take-le 2048 a.care.now (omega (arith, plane-size, c.requires.1)) in
    let all : l.i ≡ 2048 = omega (arith, long) in
    ap (λ (xs : List ℕ). xs ++ drop 2048 a.care.now) l.invariant
    ∙ over-front (counted_byte a.counts.now a.least a.n a.end) 2048 l.i a.care.now all (omega (arith, plane-size, c.requires.1))
    ∙ ap (λ (n : ℕ). over (counted_byte a.counts.now a.least a.n a.end) n a.care.now) (sym plane-size)
