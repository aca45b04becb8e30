-- Sifting never ends with more cells than it began with, so the more turns a pass may take the fewer cells it ends with (document 02, 2.10).
-- Assumes nothing.
use mathlib.Core.Path.{◌≡◌, sym, subst, subst₂}
use mathlib.Core.List.{List}
use Prim.Native.Nat.{ℕ, zero, suc, ◌+◌, ◌-◌, ◌≤◌, ◌<◌}
use native.Mathlib.Nat.{le_refl, le_of_lt, le_trans}
use native.Mathlib.Omega.{arith}
use lib.Dec.{T, eqb}
use Rattle.lists.specs.Lists.{index}
use Rattle.diagram.specs.Orders.Order.{is_order}
use Rattle.diagram.specs.Table.{Table, cost}
use Rattle.diagram.specs.Orders.Sift.{Pass, sift, next, turn, allowed}
use Rattle.diagram.specs.Orders.Limits.{SiftNoDearer, PassNoDearer, LargerLimit}
use Rattle.diagram.proofs.Orders.Order.{order-distinct, every-variable, index_below}
use Rattle.diagram.proofs.Orders.Moved.{moved-self}
use Rattle.diagram.proofs.Orders.Sift.{sift-cost}
use Rattle.diagram.proofs.Orders.Pass.{after_turns, after-going, turn_below, turns, allowed-le, allowed-rises}

-- the level where the variable stands is one of those tried
pub sift-no-dearer : SiftNoDearer
unfolding SiftNoDearer
sift-no-dearer t v order o h =
    subst (λ (xs : List ℕ). cost t (sift t v order) ≤ cost t xs)
    (moved-self v order (order-distinct t.n order o) (every-variable t.n order o v h))
    (sift-cost t v order (index eqb v order) (index_below t.n order o v h))

module _ (t : Table) (order : List ℕ) (o : T (is_order t.n order)) where
  abbrev after : ℕ → ℕ
  after k = cost t (after_turns t k order).order

  turn-no-dearer : (k : ℕ) → k < t.n → after (suc k) ≤ after k
  unfolding after_turns turn SiftNoDearer
  turn-no-dearer k h =
      let s : Pass = after_turns t k order in
      sift-no-dearer t (next t s) s.order (after-going t order o k (le_of_lt h)).valid (turn_below t order k h)

  -- d turns more
  more-turns : (d k : ℕ) → k + d ≤ t.n → after (k + d) ≤ after k
  more-turns zero k h = let e : k ≡ k + 0 = omega arith in subst (λ (j : ℕ). after j ≤ after k) e (le_refl (after k))
  more-turns (suc d) k h =
      let e : suc (k + d) ≡ k + suc d = omega arith in
      subst (λ (j : ℕ). after j ≤ after k) e (le_trans (turn-no-dearer (k + d) (omega arith)) (more-turns d k (omega arith)))

  pub turns-no-dearer : (k j : ℕ) → k ≤ j → j ≤ t.n → after j ≤ after k
  turns-no-dearer k j h l =
      let e : k + (j - k) ≡ j = omega arith in
      subst (λ (i : ℕ). after i ≤ after k) e (more-turns (j - k) k (omega arith))

pub larger-limit : LargerLimit
unfolding LargerLimit
larger-limit t smaller larger order o h =
    subst₂ (λ (x y : Pass). cost t x.order ≤ cost t y.order) (sym (turns t larger order)) (sym (turns t smaller order))
    (turns-no-dearer t order o (allowed t.n smaller) (allowed t.n larger) (allowed-rises t.n smaller larger h)
    (allowed-le t.n larger))

pub pass-no-dearer : PassNoDearer
unfolding PassNoDearer after_turns
pass-no-dearer t limit order o =
    subst (λ (x : Pass). cost t x.order ≤ cost t order) (sym (turns t limit order))
    (turns-no-dearer t order o 0 (allowed t.n limit) (omega arith) (allowed-le t.n limit))
