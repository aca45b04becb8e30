-- `canonical::walk::Seen::arrive` meets its contract: by the mark, node k stands in the list or is new, and a new one has room.
-- Assumes nothing.
use Rattle.std.proofs.Common.{◌≡◌, ap, ◌∙◌, arith, rules, ◌≤◌, ◌<◌, ◌+◌, ◌++◌, ◌∷◌, [], length, take, set}
use lib.Seq.{length-take-le, take-suc-set}
use native.Mathlib.Numerals.{add-one}
use Rattle.canonical.specs.Inner.Walk.{arrived}
use Rattle.canonical.proofs.Listed.{arrive-room, arrive-new, listed-more}
use Rattle.canonical.proofs.walk.Seen.arrive.Goals as goal
use Rattle.canonical.proofs.walk.Seen.arrive.Goals.{Else-self-k}

room : (c : Else-self-k) → c.self.inside.len < length c.self.inside.list
room c =
    let s = c.self.inside in
    let fits : s.len ≤ length s.list = search rules in
    omega (
      arith,
      arrive-room s.stamp (take s.len s.list) s.marks c.self.invariant.1 c.args.k c.requires c.if-self-k.false,
      length-take-le s.len s.list fits,
    )

longer : (c : Else-self-k)
    → let s = c.self.inside in
    take (s.len + 1) (set s.list s.len c.args.k) ≡ take s.len s.list ++ c.args.k ∷ []
longer c = rw add-one (take-suc-set c.self.inside.list c.self.inside.len c.args.k (room c))

pub bounds-self-inside-self-inside : goal.bounds-self-inside-self-inside
bounds-self-inside-self-inside c = omega (arith, room (goal.at.bounds-self-inside-self-inside c).Else-self-k)

pub invariant_of-self : goal.invariant_of-self
invariant_of-self c =
    let b = (goal.at.invariant_of-self c).Else-self-k in
    let s = c.self.inside in (
      omega (arith, room b),
      rw (longer b) (listed-more s.stamp _ s.marks c.self.invariant.1 c.args.k c.requires c.if-self-k.false (omega arith)),
    )

pub returns : goal.returns
returns c =
    let s = c.self.inside in
    longer (goal.at.returns c).Else-self-k
    ∙ arrive-new s.stamp (take s.len s.list) s.marks c.self.invariant.1 c.args.k c.requires c.if-self-k.false
    ∙ ap (λ ks. arrived ks c.args.k) c.self.view_is
