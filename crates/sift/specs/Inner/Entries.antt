-- What stands at each level of an order in which one variable has moved, entry by entry (law moved-at: it is diagram's `moved`).
-- Assumes nothing.
use Rattle.std.specs.Prelude.{cond, List, ℕ, suc, ◌-◌, eqb, ltb, get_or}

-- the j-th of the others, where the variable stands at level q
unfoldable pub other_entry : List ℕ → ℕ → ℕ → ℕ
other_entry order q j = cond (ltb j q) (get_or order j 0) (get_or order (suc j) 0)

-- the entry of level i, where v moves from level q to level p
unfoldable pub moved_entry : List ℕ → ℕ → ℕ → ℕ → ℕ → ℕ
moved_entry order v q p i = cond (ltb i p) (other_entry order q i) (cond (eqb i p) v (other_entry order q (i - 1)))
