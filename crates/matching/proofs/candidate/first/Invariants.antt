-- The invariant: the entries before e are passed. Assumes nothing.
use Rattle.matching.proofs.Linking.Along.{Passed}
use Rattle.matching.proofs.candidate.first.Given as goal

abbrev pub invariant-loop-e : goal.invariant-loop-e
invariant-loop-e g l = Passed (g.C.Candidate.bytes l.candidate) (g.C.Candidate.part l.candidate) l.region l.k l.e
