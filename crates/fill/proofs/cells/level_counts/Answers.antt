-- `fill::cells::level_counts` meets its contract. Assumes nothing.
use Rattle.std.proofs.Common.{◌≡◌, ◌∙◌, refl, ◌≤◌, ◌+◌, ◌*◌, ◌-◌, length, get_or, set, take, List, ℕ}
use lib.Seq.{length-take-le}
use Rattle.fill.specs.Work.{links_at}
use Rattle.fill.proofs.Buffers.Sizes.{sizes}
use Rattle.fill.proofs.Counting.CountedCells.{counting-first, counting-last, counting-room, counting-on, pairs-part}
use Rattle.fill.proofs.cells.level_counts.Goals as goal
use Rattle.fill.proofs.cells.level_counts.Goals.{In-loop-p}

pub loop-p-init : goal.loop-p-init
unfolding links_at
loop-p-init c = counting-first c.args.work.now (links_at + 2 * c.args.m) (take c.args.n c.args.entries)

abbrev levels : In-loop-p → List ℕ
levels c = take c.args.n c.args.entries

-- the links of level p lie in the work buffer
room : (c : In-loop-p) → c.loop-p.at + 4 * get_or (levels c) c.loop-p.p 0 ≤ length c.args.work.now
room c =
    omega (
      sizes,
      counting-room c.args.work.now (links_at + 2 * c.args.m) (levels c) c.loop-p.p c.loop-p.at c.loop-p.counts
          c.loop-p-test.true c.loop-p.invariant,
      c.requires.2,
    )

pub overflow_mul-end : goal.overflow_mul-end
overflow_mul-end c = omega (sizes, room (goal.at.overflow_mul-end c).In-loop-p)

pub overflow_add-end : goal.overflow_add-end
overflow_add-end c = omega (sizes, room (goal.at.overflow_add-end c).In-loop-p)

pub slice_bounds-differing_pairs-end : goal.slice_bounds-differing_pairs-end
slice_bounds-differing_pairs-end c = omega (sizes, room (goal.at.slice_bounds-differing_pairs-end c).In-loop-p)

pub loop-p-preserved : goal.loop-p-preserved
loop-p-preserved c =
    let l = c.loop-p in
    let a = c.args in
    let p = goal.at.loop-p-preserved c in
    let k = get_or (levels p.In-loop-p) l.p 0 in
    let n : l.at + 4 * k - l.at ≡ 4 * k = omega sizes in
    let few : length (levels p.In-loop-p) ≤ a.n = omega (sizes, length-take-le a.n a.entries (omega sizes)) in
    counting-on a.work.now (links_at + 2 * a.m) (levels p.In-loop-p) l.p l.at l.counts c.loop-p-test.true l.invariant
    c.differing_pairs.result (set l.counts l.p c.differing_pairs.result) (omega (sizes, few, c.requires.0))
    (c.differing_pairs.ensures ∙ pairs-part a.work.now l.at k (l.at + 4 * k - l.at) n (omega (sizes, room p.In-loop-p))) refl

pub returns : goal.returns
returns c =
    let l = c.loop-p in
    let a = c.args in
    counting-last a.work.now (links_at + 2 * a.m) (take a.n a.entries) l.p l.at l.counts c.loop-p-test.false l.invariant
