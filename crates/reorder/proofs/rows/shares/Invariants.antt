-- `reorder::rows::shares` meets its contract. The invariant: the shares are those of the variables below v.
-- Assumes nothing.
use mathlib.Core.Path.{◌≡◌}
use Rattle.reorder.proofs.Shares.{shares_of}
use Rattle.reorder.proofs.rows.shares.Given as goal

abbrev pub invariant-loop-v : goal.invariant-loop-v
invariant-loop-v l = l.shares ≡ shares_of l.n l.order l.v
