-- By cases on whether the candidate is constant. Assumes nothing.
use Rattle.std.proofs.Common.{refl, sym, ◌∙◌}
use Rattle.matching.proofs.Linking.Along.{linked-always, linked-along, reworded, bool-digit}
use Rattle.matching.proofs.candidate.link_among.Goals as goal

pub returns-in-Some : goal.returns-in-Some
returns-in-Some g c =
    let w = g.C.Candidate.bytes c.args.candidate.now in
    let f = g.C.Candidate.part c.args.candidate.now in
    let l = c.args.region.now in
    reworded w _ l _ _ l l refl (c.from.ensures ∙ bool-digit c.in-Some.value) refl
    (linked-always w f l c.args.k c.in-Some.value (sym c.constant.ensures ∙ c.in-Some.is))

pub returns-in-None : goal.returns-in-None
returns-in-None g c =
    let w = g.C.Candidate.bytes c.args.candidate.now in
    let f = g.C.Candidate.part c.args.candidate.now in
    let l = c.args.region.now in
    linked-along w f l c.args.k c.along.result c.along.new.region (sym c.constant.ensures ∙ c.in-None.is) c.along.ensures
