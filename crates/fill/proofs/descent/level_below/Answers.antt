-- `fill::descent::level_below` meets its contract. Assumes nothing.
use Rattle.std.proofs.Common.{◌≡◌, sym, ap, ap₂, ◌∙◌, subst, List, ℕ, suc, ◌+◌, ◌*◌, ◌≤◌, length, replicate, arith}
use Rattle.lists.specs.Written.{splice}
use Rattle.lists.proofs.Bools.{of_T}
use Rattle.reorder.specs.Sizes.{width}
use Rattle.reorder.proofs.Shifts.{part-size, width_room, width-met}
use Rattle.matching.specs.Links.{region_size}
use Rattle.matching.proofs.Buffers.Fitting.{LevelNeeds, level-says}
use Rattle.fill.proofs.descent.level_below.Goals as goal
use Rattle.fill.proofs.descent.level_below.Goals.{After-width_of-v}

needs : (c : After-width_of-v)
    → let a = c.args in
    LevelNeeds a.d a.entries.from a.entries.count a.to a.links (length a.work.now)
needs c =
    let a = c.args in
    (level-says a.d a.entries.from a.entries.count a.to a.links (length a.work.now)).told (of_T c.requires)

wide : (c : After-width_of-v) → c.width_of-v.result ≡ width (suc c.args.d)
wide c =
    let e : c.args.d + 1 ≡ suc c.args.d = omega arith in
    c.width_of-v.ensures ∙ width-met (c.args.d + 1) (omega (arith, (needs c).0)) ∙ ap width e

within : (c : After-width_of-v) → c.args.entries.count * (c.width_of-v.result + c.width_of-v.result) ≤ region_size
within c = subst (λ (v : ℕ). c.args.entries.count * (v + v) ≤ region_size) (sym (wide c)) (needs c).1.1.1.0.0

pub overflow_add-d : goal.overflow_add-d
overflow_add-d c =
    let a = c.args in
    omega (arith, ((level-says a.d a.entries.from a.entries.count a.to a.links (length a.work.now)).told (of_T c.requires)).0)

pub overflow_add-v : goal.overflow_add-v
overflow_add-v c =
    let p = goal.at.overflow_add-v c in
    omega (arith, wide p.After-width_of-v, part-size, width_room (suc c.args.d) (needs p.After-width_of-v).0)

pub overflow_mul-entries : goal.overflow_mul-entries
overflow_mul-entries c = omega (arith, within (goal.at.overflow_mul-entries c).After-width_of-v)

pub zero-requires : goal.zero-requires
zero-requires c =
    let p = goal.at.zero-requires c in
    omega (arith, within p.After-width_of-v, (needs p.After-width_of-v).1.1.1.1.0, c.level-below.auto.work)

pub returns-clause-work : goal.returns-clause-work
returns-clause-work c =
    let a = c.args in
    c.zero.ensures
    ∙ ap₂ (λ (y : List ℕ) (v : ℕ). splice y a.entries.from (replicate (a.entries.count * (v + v)) 0)) c.level-below.ensures.work
    (wide (goal.at.returns-clause-work c).After-width_of-v)
