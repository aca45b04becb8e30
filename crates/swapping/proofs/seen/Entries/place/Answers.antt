-- `swapping::seen::Entries::place` meets its contract: the pair is a constant, or its class has an entry, or it is a new one.
-- Assumes nothing.
use Rattle.std.proofs.Common.{◌≡◌, sym, ◌∙◌, ap, arith, rules, ◌≤◌, ◌+◌, length, length-append, get_or, List, ◌∷◌, []}
use lib.Seq.{get_or-take, length-take-le}
use Rattle.diagram.specs.Exchanging.Exchange.{Pair}
use Rattle.swapping.proofs.SeenPairs.{known-small}
use Rattle.swapping.proofs.PlacedPairs.{known-after, known-link, new-after, new-link}
use Rattle.swapping.proofs.seen.Entries.place.Goals as goal

pub returns-in-Some-clause-entries : goal.returns-in-Some-clause-entries
returns-in-Some-clause-entries c =
    known-after c.args.pair c.args.self.now (sym c.is_constant.ensures ∙ c.if-is_constant.false) c.in-Some.k
    (sym c.find.ensures ∙ c.in-Some.is)

pub returns-in-Some-clause-link : goal.returns-in-Some-clause-link
returns-in-Some-clause-link c =
    let s = c.self.inside in
    let k = c.in-Some.k in
    let d = c.index-self-k.result in
    let found = sym c.find.ensures ∙ c.in-Some.is in
    let fits : s.len ≤ length s.list = search rules in
    let h = known-small c.args.pair c.args.self.now k found in
    let n : length c.args.self.now ≡ s.len = sym (ap length c.self.view_is) ∙ length-take-le s.len s.list fits in
    let e = sym (get_or-take s.len s.list k d (omega (arith, h, n))) ∙ ap (λ (gs : List Pair). get_or gs k d) c.self.view_is in
    let y : c.low-in-Some-2.result ≡ (get_or c.args.self.now k d).low = c.low-in-Some-2.ensures.0 ∙ ap (λ (g : Pair). g.low) e in (
      rw (c.low-in-Some.ensures.0, y)
          (known-link c.args.pair c.args.self.now (sym c.is_constant.ensures ∙ c.if-is_constant.false) k found d),
      omega (arith, h),
    )

pub returns-clause-entries : goal.returns-clause-entries
returns-clause-entries c =
    c.append.ensures
    ∙ new-after c.args.pair c.args.self.now (sym c.is_constant.ensures ∙ c.if-is_constant.false) (sym c.find.ensures ∙ c.in_default.is)

pub returns-clause-link : goal.returns-clause-link
returns-clause-link c =
    let s = c.self-2.inside in
    let fits : s.len ≤ length s.list = search rules in
    let n : s.len ≡ length c.args.self.now + 1 =
    omega (
      arith,
      length-take-le s.len s.list fits,
      ap length (c.self-2.view_is ∙ c.append.ensures),
      length-append c.args.self.now (c.args.pair ∷ []),
    ) in (
      rw (n, c.append.ensures)
          (new-link c.args.pair c.args.self.now (sym c.is_constant.ensures ∙ c.if-is_constant.false) (sym c.find.ensures ∙ c.in_default.is)),
      omega arith,
    )
