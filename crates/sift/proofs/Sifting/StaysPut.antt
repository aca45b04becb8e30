-- Ties of a single sift as it is called (document 02, 2.3): a variable whose level is among the fewest stays where it is, and the answer
-- is what it was while the topmost of the fewest was always taken.
-- Assumes nothing.
use Rattle.std.specs.Prelude.{Ok}
use mathlib.Core.Path.{◌≡◌, ap, ◌∙◌}
use mathlib.Core.Bool.{not}
use mathlib.Core.List.{List, ◌++◌}
use Prim.Native.Nat.{ℕ, ◌-◌, ◌≤◌, ◌<◌}
use native.Mathlib.Omega.{arith}
use lib.Dec.{ltb, ltb→lt}
use lib.ListN.{drop, take-append-drop}
use Rattle.lists.proofs.Bools.{split, to-T}
use Rattle.diagram.specs.Orders.Order.{moved}
use Rattle.diagram.specs.Table.{Table, cost}
use Rattle.diagram.specs.Orders.Sift.{fewest}
use Rattle.diagram.proofs.Orders.Sift.{sift-stays, sift-same}
use Rattle.table.specs.Answer.{Answer}
use Rattle.table.specs.declared.Refusal.TheVariants.{NoSuch, ShortBuffer, NoTable}
use Rattle.table.specs.declared.State.{State}
use Rattle.table.specs.Answer.{unless, state_after}
use Rattle.table.specs.State.{order_of, stage_of, is_nothing}
use Rattle.table.proofs.Held.{held-heading, heading-order}
use Rattle.fill.specs.Calls.{held_table, enough}
use Rattle.sift.specs.Calls.{sift_answer, sift_outcome}

module _ (s : State) (v : ℕ) (values care work : List ℕ) where
  abbrev t : Table
  t = held_table s values care

  -- the order is as it was, all ten entries of it, where no level of v is cheaper than its own
  pub order-kept : ((p : ℕ) → p < s.n → cost t (order_of s) ≤ cost t (moved v p (order_of s)))
      → (state_after s (sift_outcome s v values care work)).order ≡ s.order
  unfolding sift_answer sift_outcome
  order-kept least =
      split (enough values care work)
      (λ e. split (not (is_nothing (stage_of s)))
      (λ h. split (ltb v s.n)
      (λ l. rw (e, h, l) (ap (λ (xs : List ℕ). xs ++ drop s.n s.order)
      (sift-stays t v (order_of s) (heading-order s.n s.m (order_of s) (held-heading s (to-T h))) (ltb→lt v s.n (to-T l)) least)
      ∙ take-append-drop s.n s.order))
      (λ l. rw (e, h, l)))
      (λ h. rw (e, h)))
      (λ e. rw e)

  -- the topmost of the levels with the fewest nodes, which a sift took whatever the present level
  abbrev topmost : ℕ
  topmost = fewest (λ p. cost t (moved v p (order_of s))) (s.n - 1)

  pub answer-kept : sift_answer s v values care work
      ≡ unless (enough values care work) ShortBuffer
      (unless (not (is_nothing (stage_of s))) NoTable
      (unless (ltb v s.n) NoSuch (Ok (cost t (moved v topmost (order_of s))))))
  unfolding sift_answer
  answer-kept =
      ap (λ (a : Answer). unless (enough values care work) ShortBuffer (unless (not (is_nothing (stage_of s))) NoTable a))
      (split (ltb v s.n)
      (λ l. let some : v < s.n = ltb→lt v s.n (to-T l) in
      rw l (ap (λ (c : ℕ). Ok c) (sift-same t v (order_of s) (s.n - 1) (omega arith))))
      (λ l. rw l))
