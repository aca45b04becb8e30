-- `fill::lowering::count_below` meets its contract. Assumes nothing.
use Rattle.std.proofs.Common.{◌≡◌, sym, ap, subst, List, ℕ, suc, ◌+◌, ◌-◌, set}
use Rattle.matching.specs.Level.{parts_at}
use Rattle.fill.proofs.Buffers.HeldParts.{region-end, region-told}
use Rattle.fill.proofs.Lowered.TrialSizes.{trial_sizes}
use Rattle.fill.proofs.Lowered.LevelsCounted.{Counted, down-place, counted-first, counted-last, counted-asks, counted-links, counted-on}
use Rattle.fill.proofs.lowering.count_below.Goals as goal
use Rattle.fill.proofs.lowering.count_below.Goals.{In-loop-e}

pub loop-e-init : goal.loop-e-init
loop-e-init c =
    let a = c.args in
    let k = a.kept.entries in
    let r = c.requires in
    let at : a.p ≡ a.p + a.d - a.d = omega trial_sizes in
    subst (λ (l : ℕ). Counted a.p a.d a.kept.above (parts_at a.d k.count k.from a.work.now) a.work.now a.d l k.from 8192 k.count
    a.work.now a.kept.above) at
    (counted-first a.p a.d a.kept.above a.work.now r.long_work k.from k.count (omega (trial_sizes, r.levels_left.0)) r.levels_left.1
    (region-end k.from (region-told k.from a.kept.in_region)) r.has_room)

abbrev top : In-loop-e → List (List ℕ)
top c =
    let a = c.args in
    parts_at a.d a.kept.entries.count a.kept.entries.from a.work.now

down : (c : In-loop-e)
    → let a = c.args in
    let l = c.loop-e in
    Counted a.p a.d a.kept.above (top c) a.work.now (suc (l.e - 1)) (a.p + a.d - l.e) l.entries.from l.to l.entries.count l.work l.counts
down c =
    let a = c.args in
    let l = c.loop-e in
    let e : l.e ≡ suc (l.e - 1) = omega trial_sizes in
    subst
    (λ (e : ℕ). Counted a.p a.d a.kept.above (top c) a.work.now e (a.p + a.d - l.e) l.entries.from l.to l.entries.count l.work l.counts) e
    l.invariant

pub level-below-requires : goal.level-below-requires
level-below-requires c =
    let l = c.loop-e in
    let a = c.args in
    let p = (goal.at.level-below-requires c).In-loop-e in
    counted-asks a.p a.d a.kept.above a.work.now c.requires.long_work (top p) (l.e - 1) (a.p + a.d - l.e) l.entries.from l.to
    l.entries.count l.work l.counts (down p) c.requires.levels_left.0

pub cells_of-requires : goal.cells_of-requires
cells_of-requires c =
    let l = c.loop-e in
    let a = c.args in
    let p = (goal.at.cells_of-requires c).In-loop-e in
    omega (
      trial_sizes,
      counted-links a.p a.d a.kept.above a.work.now c.requires.long_work (top p) (l.e - 1) (a.p + a.d - l.e) l.entries.from l.to
          l.entries.count l.work l.counts (down p),
      c.level-below.auto.work,
    )

pub overflow_sub-to : goal.overflow_sub-to
overflow_sub-to c = omega (trial_sizes, (down-place c.loop-e.to c.loop-e.invariant.next).1)

pub loop-e-preserved : goal.loop-e-preserved
loop-e-preserved c =
    let l = c.loop-e in
    let a = c.args in
    let r = c.level-below in
    let p = (goal.at.loop-e-preserved c).In-loop-e in
    let at = a.p + a.d - l.e in
    let here : a.p + a.d - 1 - (l.e - 1) ≡ at = omega trial_sizes in
    let next : at + 1 ≡ a.p + a.d - (l.e - 1) = omega trial_sizes in
    let counts = set l.counts (a.p + a.d - 1 - (l.e - 1)) c.cells_of.result in
    subst (λ (from : ℕ). Counted a.p a.d a.kept.above (top p) a.work.now (l.e - 1) (a.p + a.d - (l.e - 1)) from (20480 - l.to)
    r.result.count r.new.work counts) (sym r.ensures.from)
    (subst (λ (i : ℕ). Counted a.p a.d a.kept.above (top p) a.work.now (l.e - 1) i l.to (20480 - l.to) r.result.count r.new.work counts) next
    (counted-on a.p a.d a.kept.above a.work.now c.requires.long_work (top p) (l.e - 1) at l.entries.from l.to l.entries.count
    l.work l.counts (down p) r.result.count c.cells_of.result r.new.work counts c.requires.levels_left.0 r.auto.work
    r.ensures.count r.ensures.work c.cells_of.ensures (ap (λ (i : ℕ). set l.counts i c.cells_of.result) here)))

pub returns : goal.returns
returns c =
    let l = c.loop-e in
    let a = c.args in
    let k = a.kept.entries in
    let all = parts_at a.d k.count k.from a.work.now in
    let e : l.e ≡ 0 = omega trial_sizes in
    let g = subst
    (λ (e : ℕ). Counted a.p a.d a.kept.above all a.work.now e (a.p + a.d - l.e) l.entries.from l.to l.entries.count l.work l.counts) e
    l.invariant in record {
      counts = counted-last a.p a.d a.kept.above a.work.now c.requires.long_work all (a.p + a.d - l.e) l.entries.from l.to l.entries.count
          l.work l.counts g;
      kept = g.front;
      behind = g.behind;
    }
