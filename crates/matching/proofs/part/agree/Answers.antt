-- The test of every byte. Assumes nothing.
use Rattle.std.proofs.Common.{◌≡◌, rules, Bool, true, false, ℕ, ◌+◌, ◌<◌, get_or, MatchBool}
use Rattle.std.proofs.iter.runs.Sources.{ranges}
use Rattle.matching.specs.Bytes.{agree_byte}
use Rattle.matching.specs.Parts.{agree_part}
use Rattle.matching.proofs.Parts.PartTests.{all-tested}
use Rattle.matching.proofs.part.agree.Goals as goal

pub returns : goal.returns
unfolding agree_part agree_byte
returns c =
    let a = c.args in
    let f = a.f.now in
    let g = a.g.now in
    let test : ℕ → Bool = λ j. agree_byte false (get_or f j 0) (get_or f (a.w + j) 0) (get_or g j 0) (get_or g (a.w + j) 0) in
    let tested : MatchBool c.all.result ((j : ℕ) → j < a.w → test j ≡ true) ((j : ℕ) × (j < a.w) × (test j ≡ false)) =
    search (rules, ranges) in
    all-tested test a.w c.all.result tested
