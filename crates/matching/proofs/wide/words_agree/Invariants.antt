-- The invariant: plain and inverted are 0 where the bytes of the first i words agree so. Assumes nothing.
use Rattle.std.proofs.Common.{◌≡◌, true, false, ◌+◌, ◌*◌, take}
use lib.Dec.{eqb}
use Rattle.lists.specs.Lists.{all, up_to}
use Rattle.matching.proofs.Wordwise.WholeWords.{byte_test}
use Rattle.matching.proofs.wide.words_agree.Given as goal

abbrev pub invariant-loop-i : goal.invariant-loop-i
invariant-loop-i l =
    (eqb l.plain 0 ≡ all (byte_test false l.w l.f (take (l.w + l.w) l.entry)) (up_to (l.i * 8)))
    × (eqb l.inverted 0 ≡ all (byte_test true l.w l.f (take (l.w + l.w) l.entry)) (up_to (l.i * 8)))
