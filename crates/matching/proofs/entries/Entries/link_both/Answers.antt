-- g after f. Assumes nothing.
use Rattle.std.proofs.Common.{sym, ap, ◌∙◌, subst, [], ◌∷◌, ℕ, ◌+◌}
use Rattle.matching.specs.Inner.Linking.{HasRoom, Links}
use Rattle.matching.proofs.Linking.LinkedPair.{second-room, both-linked}
use Rattle.matching.proofs.entries.Entries.link_both.Goals as goal

pub link-requires-2 : goal.link-requires-2
link-requires-2 g c =
    let a = c.args in
    let w = g.C.Candidate.bytes a.f.now in
    let x = g.C.Candidate.part a.f.now in
    subst (λ (n : ℕ). HasRoom 1 n c.link.new.self c.link.new.work) (sym c.requires.same_size)
    (second-room w a.self.now c.link.new.self a.work.now c.link.new.work x c.requires.room (g.met.C.Candidate.part_len a.f.now)
    c.link.ensures.links c.link.auto.work)

pub returns : goal.returns
returns g c =
    let a = c.args in
    let w = g.C.Candidate.bytes a.f.now in
    let x = g.C.Candidate.part a.f.now in
    let y = g.C.Candidate.part a.g.now in
    let same = c.requires.same_size in
    both-linked w a.self.now c.link.new.self a.work.now c.link.new.work x c.requires.room (g.met.C.Candidate.part_len a.f.now)
    c.link.ensures.links c.link-2.new.self c.link-2.new.work y
    (g.met.C.Candidate.part_len a.g.now ∙ ap (λ (n : ℕ). n + n) same)
    (subst (λ (n : ℕ). Links n (y ∷ []) c.link.new.self c.link-2.new.self c.link.new.work c.link-2.new.work) same c.link-2.ensures.links)
