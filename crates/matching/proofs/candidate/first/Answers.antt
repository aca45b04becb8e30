-- Entry e is found, or passed. Assumes nothing.
use Rattle.std.proofs.Common.{◌≡◌, refl, sym, ap, ◌∙◌, subst, List, ℕ, ◌+◌, ◌-◌, ◌*◌, ◌≤◌, ◌<◌, length, take, drop, Some, None, arith}
use lib.Seq.{take-take}
use Rattle.matching.specs.Inner.Found.{agreement}
use Rattle.matching.proofs.Linking.Along.{part_on, Passed, passed-more, passed-found, passed-end}
use Rattle.matching.proofs.Linking.First.{part-within, is_first, disagrees}
use Rattle.matching.proofs.candidate.first.Goals as goal

-- the part of entry e is at the front of all that is lent for it
seen : (w : ℕ) (f l : List ℕ) (k e n : ℕ) → w + w ≡ n → e < k → (k + 1) * (w + w) + 8 ≤ length l
    → agreement w f (part_on w l e) ≡ agreement w f (take (w + w) (take (length l - e * n) (drop (e * n) l)))
seen w f l k e n s h room =
    let a : e * (w + w) ≡ e * n = ap (λ (y : ℕ). e * y) s in
    ap (λ (y : ℕ). agreement w f (take (w + w) (drop y l))) a
    ∙ ap (agreement w f) (sym (take-take (w + w) (length l - e * n) (drop (e * n) l)
    (omega (arith, a, part-within k e (e * (w + w)) (w + w) h refl, room))))

pub returns-in-Some : goal.returns-in-Some
returns-in-Some g c =
    let w = g.C.Candidate.bytes c.args.candidate.now in
    let f = g.C.Candidate.part c.args.candidate.now in
    let l = c.args.region.now in
    let e = c.loop-e.e in
    let s : w + w ≡ 2 * c.bytes-size.result = omega (arith, c.bytes-size.ensures) in
    let q : agreement w f (part_on w l e) ≡ Some c.in-Some.inverted =
    seen w f l c.args.k e (2 * c.bytes-size.result) s c.loop-e-test.true c.requires ∙ sym c.agreement.ensures ∙ c.in-Some.is in
    sym (passed-found w f l c.args.k c.in-Some.inverted e c.loop-e-test.true c.loop-e.invariant
    (is_first w f (part_on w l e) c.in-Some.inverted q))

pub loop-e-preserved : goal.loop-e-preserved
loop-e-preserved g c =
    let w = g.C.Candidate.bytes c.args.candidate.now in
    let f = g.C.Candidate.part c.args.candidate.now in
    let l = c.args.region.now in
    let e = c.loop-e.e in
    let s : w + w ≡ 2 * c.bytes-size.result = omega (arith, c.bytes-size.ensures) in
    let q : agreement w f (part_on w l e) ≡ None =
    seen w f l c.args.k e (2 * c.bytes-size.result) s c.loop-e-test.true c.requires ∙ sym c.agreement.ensures ∙ c.in_default.is in
    let d = disagrees w f (part_on w l e) q in
    passed-more w f l c.args.k e c.loop-e-test.true c.loop-e.invariant d.0 d.1

pub returns : goal.returns
returns g c =
    let w = g.C.Candidate.bytes c.args.candidate.now in
    let f = g.C.Candidate.part c.args.candidate.now in
    let e : c.loop-e.e ≡ c.args.k = omega arith in
    sym (passed-end w f c.args.region.now c.args.k (subst (Passed w f c.args.region.now c.args.k) e c.loop-e.invariant))
