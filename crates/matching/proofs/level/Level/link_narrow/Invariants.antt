-- The invariant: what the halves of the first e parts come to is linked. Assumes nothing.
use Rattle.matching.proofs.Linking.LinkedHalves.{SoFar}
use Rattle.matching.proofs.level.Level.link_narrow.Given as goal

abbrev pub invariant-loop-e : goal.invariant-loop-e
invariant-loop-e l = SoFar l.self.d l.self.from l.initial.entries l.initial.work l.e l.entries l.work
