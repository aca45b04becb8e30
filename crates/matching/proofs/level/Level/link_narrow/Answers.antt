-- Each turn links the halves of one part. Assumes nothing.
use Rattle.std.proofs.Common.{◌≡◌, ℕ, suc, ◌+◌, ◌*◌, ◌≤◌, length, arith}
use Rattle.reorder.specs.Sizes.{width}
use Rattle.reorder.proofs.Shifts.{part-size, width_room}
use Rattle.matching.specs.Links.{region_size, word_size}
use Rattle.matching.specs.Inner.Linking.{HasRoom}
use Rattle.matching.proofs.Linking.LinkedHalves.{so-far-none, part-width, part-offset, level-variables, in-region, turn-asks, turn-leaves}
use Rattle.matching.proofs.level.Level.link_narrow.Goals as goal
use Rattle.matching.proofs.level.Level.link_narrow.Goals.{In-loop-e}

-- where the part of turn e lies
abbrev offset : In-loop-e → ℕ
offset c = c.args.self.from + c.loop-e.e * (2 * c.width_of-size.result)

at_part : (c : In-loop-e)
    → offset c ≡ c.args.self.from + c.loop-e.e * (width (suc c.args.self.d) + width (suc c.args.self.d))
at_part c =
    let s = c.args.self in
    part-offset s.d c.width_of-size.result s.from c.loop-e.e (level-variables s.d s.from s.count s.to s.links s.len s.fits) c.width_of-size.ensures

-- it lies in its region
within : (c : In-loop-e)
    → (offset c + (width (suc c.args.self.d) + width (suc c.args.self.d)) ≤ c.args.self.from + region_size)
    × (c.args.self.from + region_size + word_size ≤ c.args.self.len)
within c =
    let s = c.args.self in
    let n = c.no_entries-entries in
    in-region s.d s.from s.count s.to s.links s.len s.fits c.args.work.now c.requires.len n.result n.ensures.to n.ensures.count n.ensures.links
    c.loop-e.e (offset c) c.loop-e-test.true (at_part c)

asks : (c : In-loop-e)
    → (offset c + (width (suc c.args.self.d) + width (suc c.args.self.d)) + word_size ≤ length c.loop-e.work)
    × HasRoom 2 (width c.args.self.d) c.loop-e.entries c.loop-e.work
asks c =
    let s = c.args.self in
    let n = c.no_entries-entries in
    turn-asks s.d s.from s.count s.to s.links s.len s.fits c.args.work.now c.requires.len n.result n.ensures.to n.ensures.count
    n.ensures.links c.loop-e.e (offset c) c.loop-e-test.true (at_part c) c.loop-e.entries c.loop-e.work c.loop-e.invariant c.loop-e.auto.work

pub loop-e-init : goal.loop-e-init
loop-e-init c =
    so-far-none c.args.self.d c.args.self.from c.no_entries-entries.result c.args.work.now c.no_entries-entries.ensures.count

pub overflow_mul-size : goal.overflow_mul-size
overflow_mul-size c =
    let s = c.args.self in
    let h = level-variables s.d s.from s.count s.to s.links s.len s.fits in
    omega (arith, part-width s.d c.width_of-size.result h c.width_of-size.ensures, width_room (suc s.d) (omega arith), part-size)

pub overflow_mul-e : goal.overflow_mul-e
overflow_mul-e c = omega (arith, within (goal.at.overflow_mul-e c).In-loop-e, c.requires.len)

pub overflow_add-self-in-loop-e : goal.overflow_add-self-in-loop-e
overflow_add-self-in-loop-e c = omega (arith, within (goal.at.overflow_add-self-in-loop-e c).In-loop-e, c.requires.len)

pub link_narrow-requires-clause-in_work : goal.link_narrow-requires-clause-in_work
link_narrow-requires-clause-in_work c = omega (arith, (asks (goal.at.link_narrow-requires-clause-in_work c).In-loop-e).0)

pub link_narrow-requires-clause-room : goal.link_narrow-requires-clause-room
link_narrow-requires-clause-room c = (asks (goal.at.link_narrow-requires-clause-room c).In-loop-e).1

pub loop-e-preserved : goal.loop-e-preserved
loop-e-preserved c =
    let s = c.args.self in
    let n = c.no_entries-entries in
    let p = (goal.at.loop-e-preserved c).In-loop-e in
    turn-leaves s.d s.from s.count s.to s.links s.len s.fits c.args.work.now c.requires.len n.result n.ensures.to n.ensures.count
    n.ensures.links c.loop-e.e (offset p) c.loop-e-test.true (at_part p) c.loop-e.entries c.link_narrow.new.self c.loop-e.work
    c.link_narrow.new.work c.loop-e.invariant c.link_narrow.ensures
