-- Both words are those of the half. Assumes nothing.
use Rattle.std.proofs.Common.{◌≡◌, sym, ap, ◌∙◌, subst, ℕ, suc, ◌+◌, ◌^◌, ◌≤◌, ◌<◌, arith}
use Rattle.reorder.specs.Sizes.{width, width_up_to}
use Rattle.reorder.proofs.Shifts.{width-met}
use Rattle.matching.specs.Level.{part_at}
use Rattle.matching.specs.Parts.{half_part}
use Rattle.matching.specs.Inner.Words.{part_of}
use Rattle.matching.proofs.Linking.LinkedHalves.{part-width}
use Rattle.matching.proofs.Linking.NarrowHalves.{half_of}
use Rattle.matching.proofs.Parts.PartHalves.{width-pos, width_narrow}
use Rattle.matching.proofs.narrow_halves.narrow_half.Goals as goal
use Rattle.matching.proofs.narrow_halves.narrow_half.Goals.{After-half_word-2}

-- the bytes of the half's values, and of the part's
narrow : (d r : ℕ) → d ≤ 6 → r ≡ width_up_to d → r ≡ width d
narrow d r h e = e ∙ width-met d (omega arith)

whole : (d r : ℕ) → d ≤ 6 → r ≡ width_up_to (d + 1) → r ≡ width (suc d)
whole d r h e = part-width d r (omega arith) e

pub overflow_add-a : goal.overflow_add-a
overflow_add-a c = omega (arith, whole c.args.d c.width_of-2.result c.requires.variables c.width_of-2.ensures, c.requires.in_work)

pub half_word-requires-2-clause-in_work : goal.half_word-requires-2-clause-in_work
half_word-requires-2-clause-in_work c =
    omega (arith, whole c.args.d c.width_of-2.result c.requires.variables c.width_of-2.ensures, c.requires.in_work)

known : (c : After-half_word-2)
    → (part_of (width c.args.d) c.half_word.result c.half_word-2.result ≡ half_part c.args.b c.args.d (part_at (suc c.args.d) c.args.a c.args.work.now))
    × (c.half_word-2.result < 256 ^ width c.args.d)
known c =
    let a = c.args in
    half_of a.b a.d a.a (a.a + c.width_of-2.result) a.work.now (λ i. (c.type_inv.work i).fits) (omega (arith, c.requires.in_work))
    (ap (λ (n : ℕ). a.a + n) (whole a.d c.width_of-2.result c.requires.variables c.width_of-2.ensures)) c.half_word.result
    c.half_word-2.result c.half_word.ensures c.half_word-2.ensures

pub invariant_of-result : goal.invariant_of-result
invariant_of-result c =
    let d = c.args.d in
    let e = sym (narrow d c.width_of.result c.requires.variables c.width_of.ensures) in
    let k = (known (goal.at.invariant_of-result c).After-half_word-2).1 in
    record {
      some_bytes = subst (λ (n : ℕ). 0 < n) e (width-pos d);
      one_word = subst (λ (n : ℕ). n ≤ 8) e (width_narrow d c.requires.variables);
      care_within = subst (λ (n : ℕ). c.half_word-2.result < 256 ^ n) e k;
    }

pub returns-clause-w : goal.returns-clause-w
returns-clause-w c = narrow c.args.d c.width_of.result c.requires.variables c.width_of.ensures

pub returns-clause-part : goal.returns-clause-part
returns-clause-part c =
    ap (λ (n : ℕ). part_of n c.half_word.result c.half_word-2.result)
    (narrow c.args.d c.width_of.result c.requires.variables c.width_of.ensures)
    ∙ (known (goal.at.returns-clause-part c).After-half_word-2).0
