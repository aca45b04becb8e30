-- `lent::rows::write_answers` meets its contract: the answers are written as far as row i.
-- Assumes nothing.
use mathlib.Core.Path.{◌≡◌}
use lib.ListN.{get_or}
use Rattle.lists.specs.Written.{over}
use Rattle.lent.specs.Evaluate.{row_outputs}
use Rattle.lent.proofs.rows.write_answers.Given as goal

abbrev pub invariant-loop-i : goal.invariant-loop-i
invariant-loop-i l =
    l.answers ≡ over (λ j. row_outputs l.network.state (get_or l.rows j 0) l.network.roots.now l.network.cells.now) l.i l.initial.answers
