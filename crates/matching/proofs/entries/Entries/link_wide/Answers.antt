-- By cases on whether the halves agree. Assumes nothing.
use Rattle.std.proofs.Common.{◌≡◌, sym, ap, ◌∙◌, subst, Bool, true, false, cond, [], ◌∷◌, ℕ, suc, ◌+◌, ◌-◌, ◌*◌, ◌%◌, length, take, drop, arith}
use Rattle.reorder.specs.Sizes.{width}
use Rattle.reorder.proofs.Shifts.{width-met}
use Rattle.matching.specs.Level.{part_at}
use Rattle.matching.specs.Parts.{agree_part, half_part, united_or, offered_part}
use Rattle.matching.specs.Inner.Linking.{Links}
use Rattle.matching.proofs.Buffers.PartLengths.{offered-is}
use Rattle.matching.proofs.Linking.LinkedHalf.{length_part}
use Rattle.matching.proofs.Linking.LinkedHalves.{part-width}
use Rattle.matching.proofs.Linking.LinkedPair.{linked-as, taken-are}
use Rattle.matching.proofs.Parts.PartHalves.{width-pos, width-whole}
use Rattle.matching.proofs.entries.Entries.link_wide.Goals as goal
use Rattle.matching.proofs.entries.Entries.link_wide.Goals.{After-unite, After-width_of}

-- the bytes of a half's values, and of the part's
sizes : (c : After-width_of) → (c.width_of-w.result ≡ width c.args.d) × (c.width_of.result ≡ width (suc c.args.d))
sizes c =
    let h = c.requires.variables in
    (c.width_of-w.ensures ∙ width-met c.args.d (omega arith), part-width c.args.d c.width_of.result h c.width_of.ensures)

pub overflow_mul-end : goal.overflow_mul-end
overflow_mul-end c = let p = sizes (goal.at.overflow_mul-end c).After-width_of in omega (arith, p.1, c.requires.in_work)

pub overflow_add-end : goal.overflow_add-end
overflow_add-end c = let p = sizes (goal.at.overflow_add-end c).After-width_of in omega (arith, p.1, c.requires.in_work)

pub slice_bounds-take_half-end : goal.slice_bounds-take_half-end
slice_bounds-take_half-end c =
    let p = sizes (goal.at.slice_bounds-take_half-end c).After-width_of in omega (arith, p.1, c.requires.in_work)

-- the part that is lent
lent : (c : After-width_of) → take (c.args.a + 2 * c.width_of.result - c.args.a) (drop c.args.a c.args.work.now) ≡ part_at (suc c.args.d) c.args.a c.args.work.now
lent c =
    let n : c.args.a + 2 * c.width_of.result - c.args.a ≡ width (suc c.args.d) + width (suc c.args.d) = omega (arith, (sizes c).1) in
    ap (λ (i : ℕ). take i (drop c.args.a c.args.work.now)) n

long : (c : After-width_of)
    → length (take (c.args.a + 2 * c.width_of.result - c.args.a) (drop c.args.a c.args.work.now)) ≡ width (suc c.args.d) + width (suc c.args.d)
long c = ap length (lent c) ∙ length_part (suc c.args.d) c.args.a c.args.work.now c.requires.in_work

pub take_half-requires-clause-part_len : goal.take_half-requires-clause-part_len
take_half-requires-clause-part_len c = long (goal.at.take_half-requires-clause-part_len c).After-width_of

pub take_half-requires-2-clause-part_len : goal.take_half-requires-2-clause-part_len
take_half-requires-2-clause-part_len c = long (goal.at.take_half-requires-2-clause-part_len c).After-width_of

pub unite-requires-clause-f_len : goal.unite-requires-clause-f_len
unite-requires-clause-f_len c =
    let p = sizes (goal.at.unite-requires-clause-f_len c).After-width_of in omega (arith, p.0, c.take_half-2.auto.half, c.requires.high_len)

pub unite-requires-clause-g_len : goal.unite-requires-clause-g_len
unite-requires-clause-g_len c =
    let p = sizes (goal.at.unite-requires-clause-g_len c).After-width_of in omega (arith, p.0, c.take_half.auto.half, c.requires.low_len)

pub invariant_of-link_twice : goal.invariant_of-link_twice
invariant_of-link_twice c =
    let p = sizes (goal.at.invariant_of-link_twice c).After-width_of in
    let d = c.args.d in
    record {
      some_bytes = omega (arith, p.0, width-pos d);
      whole_words = ap (λ (n : ℕ). n % 8) p.0 ∙ width-whole d (omega arith);
      part_len = omega (arith, p.0, c.unite.auto.g, c.take_half.auto.half, c.requires.low_len);
    }

pub invariant_of-link_both : goal.invariant_of-link_both
invariant_of-link_both c =
    let p = sizes (goal.at.invariant_of-link_both c).After-width_of in
    let d = c.args.d in
    record {
      some_bytes = omega (arith, p.0, width-pos d);
      whole_words = ap (λ (n : ℕ). n % 8) p.0 ∙ width-whole d (omega arith);
      part_len = omega (arith, p.0, c.unite.auto.g, c.take_half.auto.half, c.requires.low_len);
    }

-- the candidates, by whether the halves agree
candidates : (b : Bool) (c : After-unite) → c.unite.result ≡ b → c.width_of-w.result ≡ width c.args.d
    → take (c.args.a + 2 * c.width_of.result - c.args.a) (drop c.args.a c.args.work.now) ≡ part_at (suc c.args.d) c.args.a c.args.work.now
    → let p = part_at (suc c.args.d) c.args.a c.args.work.now in
    (c.unite.new.g ≡ offered_part false c.args.d p) × (cond b c.unite.new.g c.take_half-2.new.half ≡ offered_part true c.args.d p)
candidates b c t e l =
    let d = c.args.d in
    let p = part_at (suc d) c.args.a c.args.work.now in
    let low = c.take_half.new.half in
    let high = c.take_half-2.new.half in
    let is-low : low ≡ half_part false d p = c.take_half.ensures ∙ ap (half_part false d) l in
    let is-high : high ≡ half_part true d p = c.take_half-2.ensures ∙ ap (half_part true d) l in
    let g : c.unite.new.g ≡ united_or (width d) high low low =
    c.unite.ensures.g_after ∙ ap (λ (n : ℕ). united_or n high low low) e in
    let v : agree_part false (width d) high low ≡ b =
    ap (λ (n : ℕ). agree_part false n high low) (sym e) ∙ sym c.unite.ensures.value ∙ t in (
      g ∙ offered-is false d p high low low is-high is-low is-low,
      taken-are b (width d) high low c.unite.new.g v g ∙ offered-is true d p high low high is-high is-low is-high,
    )

pub returns-then-unite : goal.returns-then-unite
returns-then-unite c =
    let q = (goal.at.returns-then-unite c).After-width_of in
    let e = (sizes q).0 in
    let o = candidates true (goal.at.returns-then-unite c).After-unite c.if-unite.true e (lent q) in
    let a = c.args in
    linked-as (width a.d) a.self.now c.link_twice.new.self a.work.now c.link_twice.new.work _ _ _ _ o.0 o.1
    (subst
    (λ (n : ℕ). Links n (c.unite.new.g ∷ c.unite.new.g ∷ []) a.self.now c.link_twice.new.self a.work.now c.link_twice.new.work) e
    c.link_twice.ensures)

pub returns-else-unite : goal.returns-else-unite
returns-else-unite c =
    let q = (goal.at.returns-else-unite c).After-width_of in
    let e = (sizes q).0 in
    let o = candidates false (goal.at.returns-else-unite c).After-unite c.if-unite.false e (lent q) in
    let a = c.args in
    linked-as (width a.d) a.self.now c.link_both.new.self a.work.now c.link_both.new.work _ _ _ _ o.0 o.1
    (subst
    (λ (n : ℕ). Links n (c.unite.new.g ∷ c.take_half-2.new.half ∷ []) a.self.now c.link_both.new.self a.work.now c.link_both.new.work) e
    c.link_both.ensures)
