-- Linking the candidate again would leave the same. Assumes nothing.
use Rattle.std.proofs.Common.{refl}
use Rattle.matching.proofs.Linking.LinkedPair.{twice-linked}
use Rattle.matching.proofs.entries.Entries.link_twice.Goals as goal

pub returns : goal.returns
returns g c =
    let a = c.args in
    let x = a.candidate.now in
    let n = c.link-number in
    twice-linked (g.C.Candidate.bytes x) a.self.now n.new.self a.work.now n.new.work (g.C.Candidate.part x) c.requires
    (g.met.C.Candidate.part_len x) n.ensures.links n.result _ c.put_link.new.work n.ensures.link c.put_link.ensures refl refl refl
