-- The sizes of the lent buffers and their parts as numbers, for `omega`.
-- Assumes nothing.
use mathlib.Core.Path.{◌≡◌, refl}
use native.Mathlib.Omega.{arith}
use Rattle.table.proofs.Planes.PlaneSize.{plane-size}
use Rattle.fill.specs.Work.{work_size, links_at}

pub work-size : work_size ≡ 32768
unfolding work_size
work-size = refl

pub links-at : links_at ≡ 8192
unfolding links_at
links-at = refl

pub ruleset sizes = (arith, work-size, links-at, plane-size)
