-- By cases on the two tests. Assumes nothing.
use Rattle.std.proofs.Common.{◌≡◌, ◌+◌, Bool, true, false, cond, take, bit_and}
use lib.Bits.{bit_xor}
use Rattle.matching.specs.Parts.{agree_part}
use Rattle.matching.specs.Inner.Words.{part_of}
use Rattle.matching.proofs.Linking.First.{plain-first, inverted-first, agreement-met, agreement-missed}
use Rattle.matching.proofs.Linking.NarrowEntry.{agrees, differs}
use Rattle.matching.proofs.narrow.NarrowCandidate.agreement.Goals as goal
use Rattle.matching.proofs.narrow.NarrowCandidate.agreement.Goals.{After-word_at-2}

abbrev Tested : Bool → After-word_at-2 → Bool → Type 0
Tested i c b =
    let s = c.args.self.now in
    agree_part i s.w (part_of s.w s.values s.care) (take (s.w + s.w) c.args.entry.now) ≡ b

agreed : (c : After-word_at-2) (i : Bool)
    → bit_and (bit_xor c.args.self.now.values c.word_at-2.result) (bit_and c.args.self.now.care c.word_at.result)
    ≡ cond i (bit_and c.args.self.now.care c.word_at.result) 0 → Tested i c true
agreed c i =
    let s = c.args.self.now in
    agrees s.w s.values s.care c.args.entry.now (λ i. (c.type_inv.entry i).fits) s.one_word c.requires s.care_within
    c.word_at-2.result c.word_at.result c.word_at-2.ensures c.word_at.ensures i

differed : (c : After-word_at-2) (i : Bool)
    → (bit_and (bit_xor c.args.self.now.values c.word_at-2.result) (bit_and c.args.self.now.care c.word_at.result)
    ≡ cond i (bit_and c.args.self.now.care c.word_at.result) 0 → ⊥) → Tested i c false
differed c i =
    let s = c.args.self.now in
    differs s.w s.values s.care c.args.entry.now (λ i. (c.type_inv.entry i).fits) s.one_word c.requires s.care_within
    c.word_at-2.result c.word_at.result c.word_at-2.ensures c.word_at.ensures i

pub returns-then-differ-eq0 : goal.returns-then-differ-eq0
returns-then-differ-eq0 c =
    agreement-met _ _ _ false
    (plain-first _ _ _ (agreed (goal.at.returns-then-differ-eq0 c).After-word_at-2 false c.if-differ-eq0.true))

pub returns-then-differ-both : goal.returns-then-differ-both
returns-then-differ-both c =
    let p = (goal.at.returns-then-differ-both c).After-word_at-2 in
    agreement-met _ _ _ true
    (inverted-first _ _ _ (differed p false c.if-differ-eq0.false) (agreed p true c.if-differ-both.true))

pub returns-else-differ-both : goal.returns-else-differ-both
returns-else-differ-both c =
    let p = (goal.at.returns-else-differ-both c).After-word_at-2 in
    agreement-missed _ _ _ (differed p false c.if-differ-eq0.false) (differed p true c.if-differ-both.false)
