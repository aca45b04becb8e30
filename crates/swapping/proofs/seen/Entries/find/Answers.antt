-- `swapping::seen::Entries::find` meets its contract: an empty slot has no entry of the class, and a mark to one tells it.
-- Assumes nothing.
use Rattle.std.proofs.Common.{sym, ◌∙◌, ap, arith, ◌-◌, ◌<◌, ◌≤◌, length, get_or, rules}
use lib.Seq.{length-take-le, get_or-take}
use Rattle.diagram.specs.Exchanging.Exchange.{same_class}
use Rattle.swapping.proofs.SeenPairs.{found-at, found-unmarked}
use Rattle.swapping.proofs.seen.Entries.find.Goals as goal

pub returns-then-mark-eq0 : goal.returns-then-mark-eq0
returns-then-mark-eq0 c =
    rw (← c.self.view_is)
    (found-unmarked c.args.pair _ c.self.inside.marks c.self.invariant.1 c.args.slot c.requires.slot.0 c.if-mark-eq0.true)

pub returns-then-is_alike : goal.returns-then-is_alike
returns-then-is_alike c =
    let s = c.self.inside in
    let i = get_or s.marks c.args.slot 0 - 1 in
    let h : i < s.len = omega arith in
    let fits : s.len ≤ length s.list = search rules in
    rw (← c.self.view_is)
    (found-at c.args.pair _ c.self.invariant.1.apart i c.index-self-mark.result (omega (arith, length-take-le s.len s.list fits))
    (ap (same_class c.args.pair) (get_or-take s.len s.list i _ h) ∙ sym c.is_alike.ensures ∙ c.if-is_alike.true))
