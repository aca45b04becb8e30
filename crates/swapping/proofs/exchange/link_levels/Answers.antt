use Rattle.std.proofs.Common.{arith, length, ◌+◌, ◌*◌, ◌≤◌, map, refl}
use lib.ListN.{length-map}
use Rattle.diagram.specs.Exchanging.Exchange.{both}
use Rattle.fill.proofs.Buffers.Sizes.{work-size, links-at}
use Rattle.swapping.specs.Inner.Exchange.{most_pairs, lent_at}
use Rattle.swapping.proofs.AllLinks.{linking-top, linking-room, linking-next, linked-work, trace-length}
use Rattle.swapping.proofs.exchange.link_levels.Goals as goal
use Rattle.swapping.proofs.exchange.link_levels.Goals.{In-loop-q}

-- the level's links end where those of all levels end, or before
ends : (c : In-loop-q) → c.loop-q.at + 4 * length c.loop-q.below ≤ 8192 + 2 * most_pairs
ends c =
    let l = c.loop-q in
    let a = c.args in
    let node = lent_at a.cells.now in
    let fs = map both a.roots.now in
    omega (
      arith,
      linking-room node a.p fs _ _ l.q l.below l.work l.entries l.at l.invariant a.n c.loop-q-test.true,
      trace-length node a.p fs a.n,
      length-map a.roots.now both,
    )

pub link_roots-requires-clause-links_in_bounds : goal.link_roots-requires-clause-links_in_bounds
link_roots-requires-clause-links_in_bounds c = omega (arith, work-size, links-at)

pub loop-q-init : goal.loop-q-init
loop-q-init c =
    let a = c.args in
    linking-top (lent_at a.cells.now) a.p (map both a.roots.now) _ _ _ _ refl c.link_roots.ensures.top

pub link_level-requires-clause-room : goal.link_level-requires-clause-room
link_level-requires-clause-room c =
    let b = (goal.at.link_level-requires-clause-room c).In-loop-q in
    rw c.copy_to-len.ensures.copied (omega (arith, ends b, c.loop-q.invariant.there))

pub link_level-requires-clause-links_in_bounds : goal.link_level-requires-clause-links_in_bounds
link_level-requires-clause-links_in_bounds c =
    rw c.copy_to-len.ensures.copied
    (omega (arith, ends (goal.at.link_level-requires-clause-links_in_bounds c).In-loop-q, work-size))

pub overflow_add-at-in-loop-q : goal.overflow_add-at-in-loop-q
overflow_add-at-in-loop-q c = omega (arith, ends (goal.at.overflow_add-at-in-loop-q c).In-loop-q)

pub loop-q-preserved : goal.loop-q-preserved
loop-q-preserved c =
    let l = c.loop-q in
    let a = c.args in
    let e = c.copy_to-len.ensures.copied in
    rw c.copy_to-len.ensures.count.0
    (linking-next (lent_at a.cells.now) a.p (map both a.roots.now) _ _ l.q l.below l.work l.entries l.at l.invariant _ _ (omega (arith, l.invariant.long))
    (rw e at c.link_level.ensures.below) (rw e at c.link_level.ensures.work))

pub returns-clause-work : goal.returns-clause-work
returns-clause-work c =
    let l = c.loop-q in
    let a = c.args in
    linked-work (lent_at a.cells.now) a.p (map both a.roots.now) _ _ l.q l.below l.work l.entries l.at l.invariant a.n (omega arith)
    a.work.now c.link_roots.ensures.work (omega (arith, length-map a.roots.now both, links-at))
