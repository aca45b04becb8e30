-- The loop's invariant of `text::held::put_roots`: the first j roots are written.
-- Assumes nothing.
use Rattle.text.specs.Text.{root_line, in_turn}
use Rattle.text.specs.Written.{Written}
use Rattle.text.proofs.held.put_roots.Given as goal

abbrev pub invariant-loop-j : goal.invariant-loop-j
invariant-loop-j l = Written l.initial.out l.out l.at l.next (in_turn (root_line l.roots) l.j)
