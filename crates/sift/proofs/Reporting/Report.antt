-- The report of all moves, a row for each variable: what the counts of its trials bring, and one row behind the other.
-- Assumes nothing.
use mathlib.Core.Path.{◌≡◌, sym, ap, ap₂, ◌∙◌}
use mathlib.Core.List.{List, ◌++◌}
use Prim.Native.Nat.{ℕ, ◌+◌, ◌*◌, ◌≤◌, ◌<◌}
use native.Mathlib.Nat.{mul-zero, mul-suc, mul-le-mul_left}
use native.Mathlib.Numerals.{add-one}
use native.Mathlib.Omega.{arith}
use lib.Dec.{T}
use lib.IntN.{ℤ, pos, ◌-ℤ◌}
use lib.ListN.{length, take, drop}
use Rattle.lists.specs.Written.{over}
use Rattle.lists.proofs.Written.Over.{over-cong, over-part}
use Rattle.diagram.specs.Orders.Moves.{gain, gain_at}
use Rattle.diagram.specs.Table.{Table, cost}
use Rattle.diagram.proofs.Orders.Moves.{gain-entry}
use Rattle.table.specs.declared.State.{State}
use Rattle.table.specs.State.{good_heading, order_of}
use Rattle.fill.specs.Calls.{held_table}
use Rattle.sift.specs.Inner.Counts.{MovedCounts, counts_gain}
use Rattle.sift.proofs.Trying.MovedCounts.{moved-total}

-- what the counts of a variable's trials bring is what moving it brings
pub counted-row : (s : State) (values care : List ℕ) (g : T (good_heading s.n s.m (order_of s))) (v : ℕ) → v < s.n
    → (cs : List ℕ) → MovedCounts (held_table s values care) v (order_of s) cs
    → (present : ℕ) → present ≡ cost (held_table s values care) (order_of s) → (row left : List ℤ) → left ≡ over (counts_gain present cs) s.n row
    → left ≡ over (gain (held_table s values care) (order_of s) v) s.n row
unfolding gain
counted-row s values care g v below cs m present d row left e =
    e
    ∙ over-cong (counts_gain present cs) (gain (held_table s values care) (order_of s) v) s.n row
    (λ p h. ap₂ (λ (x y : ℕ). pos x -ℤ pos y) (moved-total s values care g v below cs m p h).0 d)

-- a variable's row ends within the list
pub row_room : (n v : ℕ) → v < n → n * v + n ≤ n * n
row_room n v below = omega (arith, mul-le-mul_left n below, mul-suc n v)

-- the rows of the variables before v stand in the list: none of them, one more, all
module _ (t : Table) (order : List ℕ) (l : List ℤ) where
  pub no_row : l ≡ over (gain_at t order) (t.n * 0) l
  no_row = ap (λ (k : ℕ). over (gain_at t order) k l) (sym (mul-zero t.n))

  -- the next row was written in a part of the list that is back
  pub next_row : (v : ℕ) (now row : List ℤ) (k : ℕ) → now ≡ over (gain_at t order) (t.n * v) l
      → t.n ≤ length (take k (drop (t.n * v) now)) → row ≡ over (gain t order v) t.n (take k (drop (t.n * v) now))
      → take (t.n * v) now ++ (row ++ drop k (drop (t.n * v) now)) ≡ over (gain_at t order) (t.n * (v + 1)) l
  next_row v now row k e room d =
      over-part (gain_at t order) (gain t order v) (t.n * v) k t.n l now row e (λ p h. sym (gain-entry t order v p h)) room d
      ∙ ap (λ (j : ℕ). over (gain_at t order) j l) (sym (mul-suc t.n v) ∙ ap (λ (j : ℕ). t.n * j) (sym (add-one v)))

  pub all-rows : (v : ℕ) (now : List ℤ) → v ≡ t.n → now ≡ over (gain_at t order) (t.n * v) l
      → now ≡ over (gain_at t order) (t.n * t.n) l
  all-rows v now d e = e ∙ ap (λ (k : ℕ). over (gain_at t order) (t.n * k) l) d
