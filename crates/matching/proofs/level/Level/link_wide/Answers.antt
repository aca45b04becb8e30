-- Each turn links the halves of one part. Assumes nothing.
use Rattle.std.proofs.Common.{◌≡◌, ◌∙◌, ℕ, suc, ◌+◌, ◌*◌, ◌≤◌, length, length-take, arith}
use Rattle.diagram.specs.Networks.Bound.{most_variables}
use Rattle.reorder.specs.Sizes.{width}
use Rattle.reorder.proofs.Shifts.{part-size, width_room, width-met}
use Rattle.matching.specs.Links.{region_size, word_size}
use Rattle.matching.specs.Inner.Linking.{HasRoom}
use Rattle.matching.proofs.Linking.LinkedHalves.{so-far-none, part-width, part-offset, level-variables, in-region, turn-asks, turn-leaves}
use Rattle.matching.proofs.level.Level.link_wide.Goals as goal
use Rattle.matching.proofs.level.Level.link_wide.Goals.{In-loop-e, After-width_of-half}

-- the bytes of a half, which fit the buffers
half : (c : After-width_of-half) → (2 * c.width_of-half.result ≡ width c.args.self.d + width c.args.self.d) × (2 * c.width_of-half.result ≤ 256)
half c =
    let s = c.args.self in
    let d = s.d in
    let h : d ≤ most_variables = omega (arith, level-variables d s.from s.count s.to s.links s.len s.fits) in
    omega (arith, c.width_of-half.ensures ∙ width-met d h, width_room d h, part-size)

pub overflow_mul-half : goal.overflow_mul-half
overflow_mul-half c = omega (arith, half (goal.at.overflow_mul-half c).After-width_of-half)

pub slice_bounds-low-end : goal.slice_bounds-low-end
slice_bounds-low-end c = omega (arith, half (goal.at.slice_bounds-low-end c).After-width_of-half)

pub slice_bounds-high-end : goal.slice_bounds-high-end
slice_bounds-high-end c = omega (arith, half (goal.at.slice_bounds-high-end c).After-width_of-half)

pub slice_bounds-link_wide-end : goal.slice_bounds-link_wide-end
slice_bounds-link_wide-end c =
    omega (arith, half (goal.at.slice_bounds-link_wide-end c).After-width_of-half, length-take (2 * c.width_of-half.result) c.loop-e.low)

pub slice_bounds-link_wide-end-in-loop-e : goal.slice_bounds-link_wide-end-in-loop-e
slice_bounds-link_wide-end-in-loop-e c =
    omega (arith, half (goal.at.slice_bounds-link_wide-end-in-loop-e c).After-width_of-half, length-take (2 * c.width_of-half.result) c.loop-e.high)

pub overflow_add-self : goal.overflow_add-self
overflow_add-self c =
    let s = c.args.self in omega (arith, level-variables s.d s.from s.count s.to s.links s.len s.fits)

pub link_wide-requires-clause-variables : goal.link_wide-requires-clause-variables
link_wide-requires-clause-variables c =
    let s = c.args.self in level-variables s.d s.from s.count s.to s.links s.len s.fits

pub link_wide-requires-clause-low_len : goal.link_wide-requires-clause-low_len
link_wide-requires-clause-low_len c = omega (arith, half (goal.at.link_wide-requires-clause-low_len c).After-width_of-half, length-take (2 * c.width_of-half.result) c.loop-e.low)

pub link_wide-requires-clause-high_len : goal.link_wide-requires-clause-high_len
link_wide-requires-clause-high_len c = omega (arith, half (goal.at.link_wide-requires-clause-high_len c).After-width_of-half, length-take (2 * c.width_of-half.result) c.loop-e.high)

-- where the part of turn e lies
abbrev offset : In-loop-e → ℕ
offset c = c.args.self.from + c.loop-e.e * (2 * c.width_of-size.result)

at_part : (c : In-loop-e)
    → offset c ≡ c.args.self.from + c.loop-e.e * (width (suc c.args.self.d) + width (suc c.args.self.d))
at_part c =
    let s = c.args.self in
    part-offset s.d c.width_of-size.result s.from c.loop-e.e (level-variables s.d s.from s.count s.to s.links s.len s.fits) c.width_of-size.ensures

-- it lies in its region
within : (c : In-loop-e)
    → (offset c + (width (suc c.args.self.d) + width (suc c.args.self.d)) ≤ c.args.self.from + region_size)
    × (c.args.self.from + region_size + word_size ≤ c.args.self.len)
within c =
    let s = c.args.self in
    let n = c.no_entries-entries in
    in-region s.d s.from s.count s.to s.links s.len s.fits c.args.work.now c.requires.len n.result n.ensures.to n.ensures.count n.ensures.links
    c.loop-e.e (offset c) c.loop-e-test.true (at_part c)

asks : (c : In-loop-e)
    → (offset c + (width (suc c.args.self.d) + width (suc c.args.self.d)) + word_size ≤ length c.loop-e.work)
    × HasRoom 2 (width c.args.self.d) c.loop-e.entries c.loop-e.work
asks c =
    let s = c.args.self in
    let n = c.no_entries-entries in
    turn-asks s.d s.from s.count s.to s.links s.len s.fits c.args.work.now c.requires.len n.result n.ensures.to n.ensures.count
    n.ensures.links c.loop-e.e (offset c) c.loop-e-test.true (at_part c) c.loop-e.entries c.loop-e.work c.loop-e.invariant c.loop-e.auto.work

pub loop-e-init : goal.loop-e-init
loop-e-init c =
    so-far-none c.args.self.d c.args.self.from c.no_entries-entries.result c.args.work.now c.no_entries-entries.ensures.count

pub overflow_mul-size : goal.overflow_mul-size
overflow_mul-size c =
    let s = c.args.self in
    let h = level-variables s.d s.from s.count s.to s.links s.len s.fits in
    omega (arith, part-width s.d c.width_of-size.result h c.width_of-size.ensures, width_room (suc s.d) (omega arith), part-size)

pub overflow_mul-e : goal.overflow_mul-e
overflow_mul-e c = omega (arith, within (goal.at.overflow_mul-e c).In-loop-e, c.requires.len)

pub overflow_add-self-in-loop-e : goal.overflow_add-self-in-loop-e
overflow_add-self-in-loop-e c = omega (arith, within (goal.at.overflow_add-self-in-loop-e c).In-loop-e, c.requires.len)

pub link_wide-requires-clause-in_work : goal.link_wide-requires-clause-in_work
link_wide-requires-clause-in_work c = omega (arith, (asks (goal.at.link_wide-requires-clause-in_work c).In-loop-e).0)

pub link_wide-requires-clause-room : goal.link_wide-requires-clause-room
link_wide-requires-clause-room c = (asks (goal.at.link_wide-requires-clause-room c).In-loop-e).1

pub loop-e-preserved : goal.loop-e-preserved
loop-e-preserved c =
    let s = c.args.self in
    let n = c.no_entries-entries in
    let p = (goal.at.loop-e-preserved c).In-loop-e in
    turn-leaves s.d s.from s.count s.to s.links s.len s.fits c.args.work.now c.requires.len n.result n.ensures.to n.ensures.count
    n.ensures.links c.loop-e.e (offset p) c.loop-e-test.true (at_part p) c.loop-e.entries c.link_wide.new.self c.loop-e.work
    c.link_wide.new.work c.loop-e.invariant c.link_wide.ensures
