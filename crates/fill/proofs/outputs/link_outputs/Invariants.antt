-- `fill::outputs::link_outputs` meets its contract. The loop's invariant: the first j outputs are linked. Assumes nothing.
use Rattle.fill.proofs.Linking.LinkedOutputs.{Linked}
use Rattle.fill.proofs.outputs.link_outputs.Given as goal

abbrev pub invariant-loop-j : goal.invariant-loop-j
invariant-loop-j l = Linked l.n l.values l.care l.rows l.initial.work l.j l.k l.work
