-- The loop's invariant of `text::line::put_entries`: the entries so far are written.
-- Assumes nothing.
use Rattle.std.proofs.Common.{get_or}
use Rattle.text.specs.Text.{spaced, in_turn}
use Rattle.text.specs.Written.{Written}
use Rattle.text.proofs.line.put_entries.Given as goal

abbrev pub invariant-loop-variable : goal.invariant-loop-variable
invariant-loop-variable l =
    Written l.initial.out l.out l.at l.next (in_turn (λ k. spaced (get_or l.order k 0)) l.variable-index)
