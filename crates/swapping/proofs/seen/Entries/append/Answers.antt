-- `swapping::seen::Entries::append` meets its contract: the entries are still apart, and the new one's slot has a mark.
-- Assumes nothing.
use Rattle.std.proofs.Common.{arith, ◌≡◌, sym, ◌∙◌, ◌≤◌, ◌+◌, length, rules, ap, ◌++◌, ◌∷◌, [], take, set}
use lib.Seq.{length-take-le, take-suc-set}
use native.Mathlib.Numerals.{add-one}
use Rattle.swapping.proofs.SeenPairs.{seen-more}
use Rattle.swapping.proofs.seen.Entries.append.Goals as goal

pub invariant_of-self : goal.invariant_of-self
invariant_of-self c =
    let s = c.self.inside in
    let fits : s.len ≤ length s.list = search rules in
    let n : length c.args.self.now ≡ s.len = sym (ap length c.self.view_is) ∙ length-take-le s.len s.list fits in
    let e : take (s.len + 1) (set s.list s.len c.args.pair) ≡ take s.len s.list ++ c.args.pair ∷ [] =
    rw add-one (take-suc-set s.list s.len c.args.pair (omega arith)) in (
      omega arith,
      rw e (seen-more c.args.pair _ s.marks c.self.invariant.1 c.args.slot c.requires.slot.0 (rw c.self.view_is c.requires.new)
          (omega arith) (s.len + 1) (omega arith)),
    )
