-- `fill::descent::descend` meets its contract. Assumes nothing.
use Rattle.std.proofs.Common.{◌≡◌, refl, sym, ap, subst, List, ℕ, suc, ◌+◌, ◌*◌, ◌-◌, ◌≤◌, length, set}
use Rattle.matching.specs.Level.{parts_at}
use Rattle.fill.specs.Inner.Descent.{links_up_to}
use Rattle.fill.proofs.Buffers.Sizes.{sizes}
use Rattle.fill.proofs.Buffers.HeldParts.{region-end}
use Rattle.fill.proofs.Descents.WayDown.{Going, going-first, going-last, going-asks, going-links, going_on}
use Rattle.fill.proofs.descent.descend.Goals as goal
use Rattle.fill.proofs.descent.descend.Goals.{In-loop-d}

pub loop-d-init : goal.loop-d-init
loop-d-init c =
    let a = c.args in
    let w = a.work.now in
    let r = c.requires in
    going-first a.n (parts_at a.n a.count 0 w) (links_up_to a.links w) w r.in_bounds.2 a.count a.links refl refl r.in_bounds.1
    r.holds_entries r.has_room r.links_fit

abbrev top : In-loop-d → List (List ℕ)
top c = parts_at c.args.n c.args.count 0 c.args.work.now

abbrev first : In-loop-d → List ℕ
first c = links_up_to c.args.links c.args.work.now

down : (c : In-loop-d)
    → let l = c.loop-d in
    Going c.args.n (top c) (first c) c.args.work.now (suc (l.d - 1)) l.entries.from l.at l.entries.count l.work l.counts
down c =
    let l = c.loop-d in
    let e : l.d ≡ suc (l.d - 1) = omega sizes in
    subst (λ (d : ℕ). Going c.args.n (top c) (first c) c.args.work.now d l.entries.from l.at l.entries.count l.work l.counts) e
    l.invariant

pub overflow_sub-entries : goal.overflow_sub-entries
overflow_sub-entries c = omega (sizes, region-end c.loop-d.entries.from c.loop-d.invariant.region)

pub level_below-below-requires : goal.level_below-below-requires
level_below-below-requires c =
    let l = c.loop-d in
    let p = (goal.at.level_below-below-requires c).In-loop-d in
    going-asks c.args.n (top p) (first p) c.args.work.now c.requires.in_bounds.2 (l.d - 1) l.entries.from l.at l.entries.count l.work l.counts
    (down p) c.requires.in_bounds.0 l.auto.work

-- the links end within the work buffer
links-end : (c : In-loop-d) → c.loop-d.at + 4 * c.loop-d.entries.count ≤ length c.loop-d.work
links-end c =
    let l = c.loop-d in
    going-links c.args.n (top c) (first c) c.args.work.now c.requires.in_bounds.2 (l.d - 1) l.entries.from l.at l.entries.count l.work l.counts
    (down c) l.auto.work

pub overflow_mul-at : goal.overflow_mul-at
overflow_mul-at c = omega (sizes, links-end (goal.at.overflow_mul-at c).In-loop-d)

pub overflow_add-at : goal.overflow_add-at
overflow_add-at c = omega (sizes, links-end (goal.at.overflow_add-at c).In-loop-d)

pub loop-d-preserved : goal.loop-d-preserved
loop-d-preserved c =
    let l = c.loop-d in
    let r = c.level_below-below in
    let p = (goal.at.loop-d-preserved c).In-loop-d in
    let e : c.args.n - 1 - (l.d - 1) ≡ c.args.n - suc (l.d - 1) = omega sizes in
    let counts = set l.counts (c.args.n - 1 - (l.d - 1)) l.entries.count in
    subst (λ (from : ℕ). Going c.args.n (top p) (first p) c.args.work.now (l.d - 1) from (l.at + 4 * l.entries.count) r.result.count
    r.new.work counts) (sym r.ensures.from)
    (going_on c.args.n (top p) (first p) c.args.work.now c.requires.in_bounds.2 (l.d - 1) l.entries.from l.at l.entries.count
    l.work l.counts (down p) r.result.count r.new.work counts c.requires.in_bounds.0 r.ensures.count r.ensures.work
    (ap (λ (j : ℕ). set l.counts j l.entries.count) e))

pub returns : goal.returns
returns c =
    let l = c.loop-d in
    let a = c.args in
    let w = a.work.now in
    let e : l.d ≡ 0 = omega sizes in
    let parts = parts_at a.n a.count 0 w in
    let first = links_up_to a.links w in
    let g = subst (λ (d : ℕ). Going a.n parts first w d l.entries.from l.at l.entries.count l.work l.counts) e l.invariant in
    let all = going-last a.n parts first w c.requires.in_bounds.2 l.entries.from l.at l.entries.count l.work l.counts g in
    record { entries = all.0; work = all.1 }
