use Rattle.std.proofs.Common.{◌<◌, ◌≤◌, ◌+◌, ◌*◌, arith, get_or, take}
use lib.Seq.{get_or-take}
use Rattle.std.proofs.lemmas.List.{length-take}
use Rattle.fill.proofs.Buffers.Sizes.{work-size, links-at}
use Rattle.network.proofs.LinksRead.Offsets.{first-at, within}
use Rattle.network.proofs.levels.links_end.Goals as goal
use Rattle.network.proofs.levels.links_end.Goals.{In-loop-e}

-- a level's links end where those of all levels end, or before
ends : (c : In-loop-e) → c.loop-e.end + 4 * get_or (take c.args.n c.args.entries) c.loop-e.e-index 0 ≤ 32768
ends c =
    let a = c.args in
    let p = c.loop-e.e-index in
    let h : p < a.n = omega (arith, length-take a.n a.entries) in
    omega (arith, c.loop-e.invariant, within a.m a.entries p a.n h, get_or-take a.n a.entries p 0 h, work-size)

pub loop-e-init : goal.loop-e-init
loop-e-init c = omega (arith, first-at c.args.m c.args.entries, links-at)

pub overflow_mul-end-in-loop-e : goal.overflow_mul-end-in-loop-e
overflow_mul-end-in-loop-e c = omega (arith, ends (goal.at.overflow_mul-end-in-loop-e c).In-loop-e)

pub overflow_add-end-in-loop-e : goal.overflow_add-end-in-loop-e
overflow_add-end-in-loop-e c = omega (arith, ends (goal.at.overflow_add-end-in-loop-e c).In-loop-e)
