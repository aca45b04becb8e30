-- `network_file::read::long_enough` meets its contract, buffer by buffer.
-- Assumes nothing.
use mathlib.Core.Path.{sym, ap, ◌∙◌}
use Prim.Native.Nat.{ℕ}
use native.Mathlib.Omega.{arith}
use lib.Dec.{leb}
use lib.ListN.{length}
use Rattle.table.proofs.Planes.PlaneSize.{plane-size}
use Rattle.fill.proofs.Buffers.Sizes.{work-size}
use Rattle.lent.proofs.Sizes.{roots-size}
use Rattle.network_file.proofs.Reading.ReadAnswer.{short-values, short-care, short-work, by-roots}
use Rattle.network_file.proofs.read.long_enough.Goals as goal

pub returns-then-values-lt-PLANE : goal.returns-then-values-lt-PLANE
returns-then-values-lt-PLANE c =
    let a = c.args in
    short-values a.values.now a.care.now a.work.now a.roots.now (omega (arith, plane-size))

pub returns-then-care-lt-PLANE : goal.returns-then-care-lt-PLANE
returns-then-care-lt-PLANE c =
    let a = c.args in
    short-care a.values.now a.care.now a.work.now a.roots.now (omega (arith, plane-size))

pub returns-then-work-lt-WORK : goal.returns-then-work-lt-WORK
returns-then-work-lt-WORK c =
    let a = c.args in
    short-work a.values.now a.care.now a.work.now a.roots.now (omega (arith, work-size))

pub returns : goal.returns
returns c =
    let a = c.args in
    ap (λ (k : ℕ). leb k (length a.roots.now)) (sym roots-size)
    ∙ by-roots a.values.now a.care.now a.work.now a.roots.now (omega (arith, plane-size)) (omega (arith, plane-size))
    (omega (arith, work-size))
