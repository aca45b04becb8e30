-- By cases on whether the halves agree. Assumes nothing.
use Rattle.std.proofs.Common.{◌≡◌, sym, ap, ◌∙◌, subst, true, false, [], ◌∷◌, ℕ, suc, ◌^◌, ◌<◌, bit_or}
use Rattle.reorder.specs.Sizes.{width}
use Rattle.matching.specs.Level.{part_at}
use Rattle.matching.specs.Parts.{half_part}
use Rattle.matching.specs.Inner.Words.{part_of}
use Rattle.matching.specs.Inner.Linking.{Links}
use Rattle.matching.proofs.Linking.LinkedPair.{linked-as}
use Rattle.matching.proofs.Linking.NarrowHalves.{either_small, united, apart}
use Rattle.matching.proofs.entries.Entries.link_narrow.Goals as goal
use Rattle.matching.proofs.entries.Entries.link_narrow.Goals.{After-narrow_half-high}

-- the halves at their width
low : (c : After-narrow_half-high)
    → let r = c.narrow_half-low.result in
    (part_of (width c.args.d) r.values r.care ≡ half_part false c.args.d (part_at (suc c.args.d) c.args.a c.args.work.now))
    × (r.care < 256 ^ width c.args.d)
low c =
    let r = c.narrow_half-low.result in
    let e = c.narrow_half-low.ensures.w in
    (ap (λ (n : ℕ). part_of n r.values r.care) (sym e) ∙ c.narrow_half-low.ensures.part, subst (λ (n : ℕ). r.care < 256 ^ n) e r.care_within)

high : (c : After-narrow_half-high)
    → let r = c.narrow_half-high.result in
    (part_of (width c.args.d) r.values r.care ≡ half_part true c.args.d (part_at (suc c.args.d) c.args.a c.args.work.now))
    × (r.care < 256 ^ width c.args.d)
high c =
    let r = c.narrow_half-high.result in
    let e = c.narrow_half-high.ensures.w in
    (ap (λ (n : ℕ). part_of n r.values r.care) (sym e) ∙ c.narrow_half-high.ensures.part, subst (λ (n : ℕ). r.care < 256 ^ n) e r.care_within)

pub invariant_of-both : goal.invariant_of-both
invariant_of-both c =
    let p = (goal.at.invariant_of-both c).After-narrow_half-high in
    let x = c.narrow_half-low.result in
    let y = c.narrow_half-high.result in
    record {
      some_bytes = x.some_bytes;
      one_word = x.one_word;
      care_within =
          subst (λ (n : ℕ). bit_or y.care x.care < 256 ^ n) (sym c.narrow_half-low.ensures.w)
          (either_small c.args.d _ x.values y.values x.care y.care (low p).0 (high p).0 (low p).1 (high p).1);
    }

pub returns-then-high-low-eq0 : goal.returns-then-high-low-eq0
returns-then-high-low-eq0 c =
    let p = (goal.at.returns-then-high-low-eq0 c).After-narrow_half-high in
    let a = c.args in
    let x = c.narrow_half-low.result in
    let y = c.narrow_half-high.result in
    let v = c.merge_word.result in
    let f = part_of (width a.d) v (bit_or y.care x.care) in
    let is = united a.d _ x.values y.values x.care y.care (low p).0 (high p).0 (low p).1 (high p).1 in
    linked-as (width a.d) a.self.now c.link_twice.new.self a.work.now c.link_twice.new.work f _ f _
    (is false v c.if-high-low-eq0.true c.merge_word.ensures) (is true v c.if-high-low-eq0.true c.merge_word.ensures)
    (subst
    (λ (n : ℕ). Links n (part_of n v (bit_or y.care x.care) ∷ part_of n v (bit_or y.care x.care) ∷ []) a.self.now c.link_twice.new.self
    a.work.now c.link_twice.new.work)
    c.narrow_half-low.ensures.w c.link_twice.ensures)

pub returns-else-high-low-eq0 : goal.returns-else-high-low-eq0
returns-else-high-low-eq0 c =
    let p = (goal.at.returns-else-high-low-eq0 c).After-narrow_half-high in
    let a = c.args in
    let x = c.narrow_half-low.result in
    let y = c.narrow_half-high.result in
    let is = apart a.d _ x.values y.values x.care y.care (low p).0 (high p).0 (low p).1 (high p).1 c.if-high-low-eq0.false in
    linked-as (width a.d) a.self.now c.link_both.new.self a.work.now c.link_both.new.work _ _ _ _ is.0 is.1
    (subst
    (λ (n : ℕ). Links (width a.d) (part_of (width a.d) x.values x.care ∷ part_of n y.values y.care ∷ []) a.self.now c.link_both.new.self
    a.work.now c.link_both.new.work)
    c.narrow_half-high.ensures.w
    (subst
    (λ (n : ℕ). Links n (part_of n x.values x.care ∷ part_of y.w y.values y.care ∷ []) a.self.now c.link_both.new.self a.work.now
    c.link_both.new.work)
    c.narrow_half-low.ensures.w c.link_both.ensures))
