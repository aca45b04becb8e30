-- The test of every byte. Assumes nothing.
use Rattle.std.proofs.Common.{◌≡◌, rules, Bool, true, false, ℕ, ◌+◌, ◌<◌, get_or, MatchBool}
use Rattle.std.proofs.iter.runs.Sources.{ranges}
use Rattle.matching.specs.Bytes.{always_byte}
use Rattle.matching.specs.Parts.{always_part}
use Rattle.matching.proofs.Parts.PartTests.{all-tested}
use Rattle.matching.proofs.part.always.Goals as goal

pub returns : goal.returns
unfolding always_part
returns c =
    let a = c.args in
    let f = a.f.now in
    let test : ℕ → Bool = λ j. always_byte a.v (get_or f j 0) (get_or f (a.w + j) 0) in
    let tested : MatchBool c.all.result ((j : ℕ) → j < a.w → test j ≡ true) ((j : ℕ) × (j < a.w) × (test j ≡ false)) =
    search (rules, ranges) in
    all-tested test a.w c.all.result tested
