-- The region that is lent holds the entries' parts. Assumes nothing.
use Rattle.std.proofs.Common.{arith}
use Rattle.matching.proofs.Linking.LinkedHalf.{part-entries, part-link, part-written}
use Rattle.matching.proofs.link.link.Goals as goal

pub returns-clause-entries : goal.returns-clause-entries
returns-clause-entries g c =
    let a = c.args in
    let x = a.candidate.now in
    part-entries (g.C.Candidate.bytes x) a.k a.to (g.C.Candidate.part x) a.work.now (g.met.C.Candidate.part_len x) c.requires.entry_room
    (omega (arith, c.requires.region)) _ a.l c.link_among-linked.result _ a.work.now (omega arith) c.requires.region
    c.link_among-linked.ensures

pub returns-clause-link : goal.returns-clause-link
returns-clause-link g c =
    let a = c.args in
    let x = a.candidate.now in
    part-link (g.C.Candidate.bytes x) a.k a.to (g.C.Candidate.part x) a.work.now (g.met.C.Candidate.part_len x) c.requires.entry_room
    (omega (arith, c.requires.region)) _ a.l c.link_among-linked.result _ a.work.now (omega arith) c.requires.region
    c.link_among-linked.ensures

pub returns-clause-work : goal.returns-clause-work
returns-clause-work g c =
    let a = c.args in
    let x = a.candidate.now in
    part-written (g.C.Candidate.bytes x) a.k a.to (g.C.Candidate.part x) a.work.now (g.met.C.Candidate.part_len x) c.requires.entry_room
    (omega (arith, c.requires.region)) _ a.l c.link_among-linked.result _ c.put_link.new.work (omega arith) c.requires.region
    c.link_among-linked.ensures c.put_link.ensures
