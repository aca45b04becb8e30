-- By cases on the two tests. Assumes nothing.
use Rattle.std.proofs.Common.{true, false}
use Rattle.matching.specs.Parts.{always_part}
use Rattle.matching.specs.Inner.Words.{part_of}
use Rattle.matching.proofs.Linking.First.{plain-passes, inverted-passes, constant-met, constant-missed}
use Rattle.matching.proofs.Linking.NarrowEntry.{always-met, always-missed}
use Rattle.matching.proofs.narrow.NarrowCandidate.constant.Goals as goal

pub returns-then-ones-eq0 : goal.returns-then-ones-eq0
returns-then-ones-eq0 c =
    let s = c.args.self.now in
    let f = part_of s.w s.values s.care in
    constant-met s.w f false
    (plain-passes (λ v. always_part v s.w f) (always-met s.w s.values s.care s.care_within false c.if-ones-eq0.true))

pub returns-then-ones-self : goal.returns-then-ones-self
returns-then-ones-self c =
    let s = c.args.self.now in
    let f = part_of s.w s.values s.care in
    constant-met s.w f true
    (inverted-passes (λ v. always_part v s.w f) (always-missed s.w s.values s.care s.care_within false c.if-ones-eq0.false)
    (always-met s.w s.values s.care s.care_within true c.if-ones-self.true))

pub returns-else-ones-self : goal.returns-else-ones-self
returns-else-ones-self c =
    let s = c.args.self.now in
    constant-missed s.w (part_of s.w s.values s.care)
    (always-missed s.w s.values s.care s.care_within false c.if-ones-eq0.false)
    (always-missed s.w s.values s.care s.care_within true c.if-ones-self.false)
