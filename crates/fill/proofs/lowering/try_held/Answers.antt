-- `fill::lowering::try_held` meets its contract. Assumes nothing.
use Rattle.std.proofs.Common.{rules, ◌≡◌, refl, sym, ap, ◌∙◌, subst, List, ℕ, suc, ◌+◌, ◌*◌, ◌-◌, ◌≤◌, ◌<◌, T, cond, eqb, length, take}
use Rattle.lists.specs.Written.{splice}
use Rattle.diagram.specs.Networks.Bound.{most_variables}
use Rattle.matching.specs.Level.{parts_at}
use Rattle.fill.specs.Work.{work_size}
use Rattle.fill.specs.Calls.{per_level, tried_counts}
use Rattle.fill.specs.Inner.Descent.{roomy}
use Rattle.fill.specs.Inner.Lowering.{counts_from}
use Rattle.fill.proofs.Lowered.TrialSizes.{trial_sizes}
use Rattle.fill.proofs.Lowered.Trials.{Trial, trial-first, trial-asks, trial-counted, lower-asks, trial-next}
use Rattle.fill.proofs.lowering.try_held.Goals as goal
use Rattle.fill.proofs.lowering.try_held.Goals.{At-loop-p, After-count_kept}

pub returns-then-n-eq0-clause-counts : goal.returns-then-n-eq0-clause-counts
unfolding tried_counts
returns-then-n-eq0-clause-counts c =
    let a = c.args in
    ap (tried_counts a.state a.except a.values.now a.care.now a.counts.now) (sym c.if-n-eq0.true)

pub loop-p-init : goal.loop-p-init
loop-p-init c =
    let a = c.args in
    let f = c.first_kept-kept in
    let k = f.result in
    let w = f.new.work in
    let all : a.state.n ≡ a.state.n - 0 = omega trial_sizes in
    let big : work_size ≤ length w = omega (trial_sizes, c.requires.long_buffers.0, f.auto.work) in
    subst (λ (d : ℕ). Trial a.state a.except a.values.now a.care.now a.counts.now w d 0 k.entries.from k.entries.count k.above w a.counts.now) all
    (trial-first a.state a.except a.values.now a.care.now a.counts.now w c.requires.has_table big k.entries.from k.entries.count k.above
    f.ensures.from f.ensures.entries f.ensures.above f.ensures.parts)

-- the work buffer before the loop
abbrev found : At-loop-p → List ℕ
found l = l.first_kept-kept.new.work

big : (l : At-loop-p) → work_size ≤ length (found l)
big l = omega (trial_sizes, l.requires.long_buffers.0, l.first_kept-kept.auto.work)

-- the kept entries, with the variable at level p, where d variables are left
abbrev At : At-loop-p → ℕ → ℕ → Type 0
At l d p =
    let a = l.args in
    let k = l.loop-p.kept in
    Trial a.state a.except a.values.now a.care.now a.counts.now (found l) d p k.entries.from k.entries.count k.above l.loop-p.work l.loop-p.counts

at : (l : At-loop-p) (d p : ℕ) → l.loop-p.p ≡ p → l.args.state.n - p ≡ d → At l d p
at l d p e f = subst (λ (d : ℕ). At l d p) f (subst (λ (p : ℕ). At l (l.args.state.n - p) p) e l.loop-p.invariant)

-- what a trial asks
asks : (l : At-loop-p) (d p : ℕ) → 1 ≤ d → At l d p
    → let k = l.loop-p.kept in
    ((p + d ≤ most_variables) × (p < most_variables) × (k.above ≡ per_level (take p k.above)))
    × T (roomy d (parts_at d k.entries.count k.entries.from l.loop-p.work))
asks l d p some t =
    let a = l.args in
    let k = l.loop-p.kept in
    trial-asks a.state a.except a.values.now a.care.now a.counts.now (found l) l.requires.has_table (big l) d p k.entries.from k.entries.count
    k.above l.loop-p.work l.loop-p.counts some t

-- the lent counts after it
counted : (l : At-loop-p) (d p : ℕ) (m : List ℕ) → 1 ≤ d → At l d p
    → let a = l.args in
    let k = l.loop-p.kept in
    m ≡ cond (eqb p a.except) l.loop-p.counts
    (splice l.loop-p.counts (most_variables * p) (counts_from p d k.above (parts_at d k.entries.count k.entries.from l.loop-p.work)))
    → m ≡ tried_counts a.state a.except a.values.now a.care.now a.counts.now (p + 1)
counted l d p m some t e =
    let a = l.args in
    let k = l.loop-p.kept in
    trial-counted a.state a.except a.values.now a.care.now a.counts.now (found l) l.requires.has_table (big l) d p k.entries.from k.entries.count
    k.above l.loop-p.work l.loop-p.counts some t m e

-- of the last
last : (l : At-loop-p) → (l.args.state.n ≡ 0 → ⊥) → l.args.state.n - 1 ≤ l.loop-p.p → At l 1 (l.args.state.n - 1)
last l some past = at l 1 (l.args.state.n - 1) (omega trial_sizes) (omega trial_sizes)

pub count_kept-requires : goal.count_kept-requires
count_kept-requires c =
    let l = (goal.at.count_kept-requires c).At-loop-p in
    let all = asks l (c.args.state.n - c.loop-p.p) c.loop-p.p (omega trial_sizes) c.loop-p.invariant in
    record { levels_left = all.0; long_buffers = search rules; has_room = all.1 }

pub count_kept-requires-2 : goal.count_kept-requires-2
count_kept-requires-2 c =
    let l = (goal.at.count_kept-requires-2 c).At-loop-p in
    let all = asks l 1 (c.args.state.n - 1) (omega trial_sizes) (last l c.if-n-eq0.false c.loop-p-test.false) in
    record { levels_left = all.0; long_buffers = search rules; has_room = all.1 }

pub lower-kept-requires : goal.lower-kept-requires
lower-kept-requires c =
    let a = c.args in
    let k = c.loop-p.kept in
    let d = a.state.n - c.loop-p.p - 2 in
    let q = c.count_kept in
    let l = (goal.at.lower-kept-requires c).At-loop-p in
    let all = lower-asks a.state a.except a.values.now a.care.now a.counts.now (found l) c.requires.has_table (big l)
    d c.loop-p.p k.entries.from k.entries.count k.above c.loop-p.work c.loop-p.counts
    (at l (suc (suc d)) c.loop-p.p refl (omega trial_sizes)) q.new.work q.new.counts q.ensures.kept q.ensures.behind q.auto.work q.auto.counts
    (counted l (a.state.n - c.loop-p.p) c.loop-p.p q.new.counts (omega trial_sizes) c.loop-p.invariant q.ensures.counts) in
    record { levels_left = all.0; long_work = search rules; has_room = all.1 }

pub loop-p-preserved : goal.loop-p-preserved
loop-p-preserved c =
    let a = c.args in
    let k = c.loop-p.kept in
    let d = a.state.n - c.loop-p.p - 2 in
    let q = c.count_kept in
    let r = c.lower-kept in
    let l = (goal.at.loop-p-preserved c).At-loop-p in
    let e : suc d ≡ a.state.n - (c.loop-p.p + 1) = omega trial_sizes in
    subst (λ (d : ℕ). Trial a.state a.except a.values.now a.care.now a.counts.now (found l) d (c.loop-p.p + 1) r.result.entries.from
    r.result.entries.count r.result.above r.new.work q.new.counts) e
    (trial-next a.state a.except a.values.now a.care.now a.counts.now (found l) c.requires.has_table (big l)
    d c.loop-p.p k.entries.from k.entries.count k.above c.loop-p.work c.loop-p.counts
    (at l (suc (suc d)) c.loop-p.p refl (omega trial_sizes)) q.new.work q.new.counts q.ensures.kept q.ensures.behind q.auto.work q.auto.counts
    (counted l (a.state.n - c.loop-p.p) c.loop-p.p q.new.counts (omega trial_sizes) c.loop-p.invariant q.ensures.counts)
    r.result.entries.from r.result.entries.count r.result.above r.new.work r.ensures.from r.ensures.entries r.ensures.above r.ensures.parts
    r.ensures.behind r.auto.work)

pub returns-clause-counts : goal.returns-clause-counts
returns-clause-counts c =
    let a = c.args in
    let l = (goal.at.returns-clause-counts c).At-loop-p in
    let e : a.state.n - 1 + 1 ≡ a.state.n = omega trial_sizes in
    counted l 1 (a.state.n - 1) c.count_kept-2.new.counts (omega trial_sizes) (last l c.if-n-eq0.false c.loop-p-test.false)
    c.count_kept-2.ensures.counts
    ∙ ap (tried_counts a.state a.except a.values.now a.care.now a.counts.now) e
