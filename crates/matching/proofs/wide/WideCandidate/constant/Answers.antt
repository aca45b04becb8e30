-- By cases on the two tests. Assumes nothing.
use Rattle.std.proofs.Common.{sym, ◌∙◌, true, false}
use Rattle.matching.specs.Parts.{always_part}
use Rattle.matching.proofs.Linking.First.{plain-passes, inverted-passes, constant-met, constant-missed}
use Rattle.matching.proofs.wide.WideCandidate.constant.Goals as goal

pub returns-then-always : goal.returns-then-always
returns-then-always c =
    let s = c.args.self.now in
    constant-met s.w s.part.now false
    (plain-passes (λ v. always_part v s.w s.part.now) (sym c.always.ensures ∙ c.if-always.true))

pub returns-then-always-2 : goal.returns-then-always-2
returns-then-always-2 c =
    let s = c.args.self.now in
    constant-met s.w s.part.now true
    (inverted-passes (λ v. always_part v s.w s.part.now) (sym c.always.ensures ∙ c.if-always.false)
    (sym c.always-else-always.ensures ∙ c.if-always-2.true))

pub returns-else-always-2 : goal.returns-else-always-2
returns-else-always-2 c =
    let s = c.args.self.now in
    constant-missed s.w s.part.now (sym c.always.ensures ∙ c.if-always.false) (sym c.always-else-always.ensures ∙ c.if-always-2.false)
