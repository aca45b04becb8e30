-- The entry that is found is lent for the merge, or the candidate goes behind all entries. Assumes nothing.
use Rattle.std.proofs.Common.{◌≡◌, refl, sym, ap, ap₂, ◌∙◌, ℕ, ◌+◌, ◌*◌, ◌≤◌, ◌<◌, length, arith}
use Rattle.lists.specs.Written.{splice}
use Rattle.lists.proofs.Written.Splice.{put_back}
use Rattle.matching.proofs.Linking.Along.{Met, found-met, found-none, merged-back, linked-merged, linked-new, reworded, bool-digit}
use Rattle.matching.proofs.Linking.First.{part-within}
use Rattle.matching.proofs.candidate.along.Goals as goal
use Rattle.matching.proofs.candidate.along.Goals.{In-Some}
use Rattle.matching.proofs.candidate.along.Given.{Over}

-- where entry e lies, of n bytes
module _ (w n e k len : ℕ) (same : n ≡ w + w) (below : e < k) (room : (k + 1) * (w + w) + 8 ≤ len) where
  at : e * n ≡ e * (w + w)
  at = ap (λ (y : ℕ). e * y) same

  within : e * n + n ≤ len
  within = omega (arith, at, part-within k e (e * (w + w)) (w + w) below refl, room)

-- the entry that is found
found_at : (g : Over) (c : In-Some g)
    → Met (g.C.Candidate.bytes c.args.candidate.now) (g.C.Candidate.part c.args.candidate.now) c.args.region.now c.args.k c.in-Some.e
    c.in-Some.inverted
found_at g c =
    found-met (g.C.Candidate.bytes c.args.candidate.now) (g.C.Candidate.part c.args.candidate.now) c.args.region.now c.args.k c.in-Some.e
    c.in-Some.inverted (sym c.first.ensures ∙ c.in-Some.is)

in-region : (g : Over) (c : In-Some g) → c.in-Some.e * (2 * c.bytes-size.result) + 2 * c.bytes-size.result ≤ length c.args.region.now
in-region g c =
    within (g.C.Candidate.bytes c.args.candidate.now) (2 * c.bytes-size.result) c.in-Some.e c.args.k (length c.args.region.now)
    (omega (arith, c.bytes-size.ensures)) (found_at g c).below c.requires

pub overflow_mul-start : goal.overflow_mul-start
overflow_mul-start g c = omega (arith, in-region g (goal.at.overflow_mul-start g c).In-Some)

pub overflow_add-start : goal.overflow_add-start
overflow_add-start g c = omega (arith, in-region g (goal.at.overflow_add-start g c).In-Some)

pub slice_bounds-merge_into-end : goal.slice_bounds-merge_into-end
slice_bounds-merge_into-end g c = omega (arith, in-region g (goal.at.slice_bounds-merge_into-end g c).In-Some)

pub returns-in-Some : goal.returns-in-Some
returns-in-Some g c =
    let w = g.C.Candidate.bytes c.args.candidate.now in
    let f = g.C.Candidate.part c.args.candidate.now in
    let l = c.args.region.now in
    let e = c.in-Some.e in
    let i = c.in-Some.inverted in
    let n = 2 * c.bytes-size.result in
    let same : n ≡ w + w = omega (arith, c.bytes-size.ensures) in
    reworded w _ l _ _ _ _ refl (omega (arith, bool-digit i, c.from.ensures))
    (merged-back i w e (e * n) _ f l c.merge_into.new.entry (ap (λ (y : ℕ). e * y) same) (omega (arith, same)) c.merge_into.ensures)
    (linked-merged w f l c.args.k e i (found_at g (goal.at.returns-in-Some g c).In-Some))

pub returns : goal.returns
returns g c =
    let w = g.C.Candidate.bytes c.args.candidate.now in
    let f = g.C.Candidate.part c.args.candidate.now in
    let l = c.args.region.now in
    let k = c.args.k in
    let n = 2 * c.bytes-size.result in
    let same : n ≡ w + w = omega (arith, c.bytes-size.ensures) in
    let long = g.met.C.Candidate.part_len c.args.candidate.now in
    reworded w _ l _ _ _ _ refl (omega arith)
    (put_back l (k * n) _ c.put.new.entry (ap length c.put.ensures ∙ long ∙ omega (arith, same))
    ∙ ap₂ (splice l) (ap (λ (y : ℕ). k * y) same) c.put.ensures)
    (linked-new w f l k long (found-none w f l k (sym c.first.ensures ∙ c.in_default.is)))
