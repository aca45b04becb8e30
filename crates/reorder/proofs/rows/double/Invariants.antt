-- `reorder::rows::double` meets its contract. The invariant: the first s rows stand again behind the rows, with the share added.
-- Assumes nothing.
use Rattle.std.proofs.Common.{◌≡◌, ◌+◌, get_or}
use Rattle.lists.specs.Written.{over}
use Rattle.reorder.proofs.rows.double.Given as goal

abbrev pub invariant-loop-s : goal.invariant-loop-s
invariant-loop-s l = l.rest ≡ over (λ s. get_or l.fn.map s 0 + l.share) l.s l.initial.rest
