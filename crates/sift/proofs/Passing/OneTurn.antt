-- One turn of a pass: the variable that comes next, by the counts known, is sifted in the state with the order reached so far, and marked.
-- Assumes nothing.
use mathlib.Core.Path.{◌≡◌, sym, ap, ◌∙◌, subst}
use mathlib.Core.Bool.{true}
use mathlib.Core.List.{List, ◌++◌}
use Prim.Native.Nat.{ℕ, ◌+◌, ◌<◌}
use lib.Dec.{T}
use lib.ListN.{set, take, drop}
use Rattle.lists.specs.Most.{most}
use Rattle.diagram.specs.Orders.Order.{moved}
use Rattle.diagram.specs.Table.{Table}
use Rattle.diagram.specs.Orders.Sift.{sift}
use Rattle.table.specs.declared.State.{State}
use Rattle.table.specs.State.{good_heading, order_of, reordered_state}
use Rattle.table.proofs.Held.{heading-inputs, heading-order}
use Rattle.fill.specs.Calls.{held_table}
use Rattle.sift.specs.declared.trials.Best.{Best}
use Rattle.sift.specs.declared.trials.Sifted.{Sifted}
use Rattle.sift.specs.declared.passes.Progress.{Progress}
use Rattle.sift.specs.Inner.Choice.{nodes_at, unmarked}
use Rattle.sift.specs.Inner.Counts.{counts_under}
use Rattle.sift.specs.Inner.Trials.{best_of, sifted_of}
use Rattle.sift.specs.Inner.Turns.{next_in, turn_of}
use Rattle.sift.proofs.Trying.BestLevel.{best-below}
use Rattle.sift.proofs.Trying.SiftedCounts.{best-sifts, sifted-best, sifted-counts}
use Rattle.sift.proofs.Passing.NextVariable.{next-below, next-counted}

module _ (s : State) (p : Progress) (values care : List ℕ) (g : T (good_heading s.n s.m (take s.n p.order))) (some : 0 < s.n)
    (known : p.counts ≡ counts_under (held_table s values care) (take s.n p.order)) (v : ℕ)
    (fullest : v ≡ most (nodes_at p.counts (take s.n p.order)) (unmarked s.n p.sifted)) where
  abbrev t : Table
  t = held_table s values care

  abbrev order : List ℕ
  order = take s.n p.order

  dv : v ≡ next_in t p
  dv =
      fullest
      ∙ next-counted t order p.sifted (heading-order s.n s.m order g) (heading-inputs s.n s.m order g) p.counts known

  pub turn_below : v < s.n
  turn_below = subst (λ (k : ℕ). k < s.n) (sym dv) (next-below t order p.sifted some)

  module _ (current : State) (dc : current ≡ reordered_state s p.order) where
    pub current-heading : T (good_heading current.n current.m (order_of current))
    current-heading = subst (λ (c : State). T (good_heading c.n c.m (order_of c))) (sym dc) g

    pub current-below : v < current.n
    current-below = subst (λ (c : State). v < c.n) (sym dc) turn_below

    pub current-known : p.counts ≡ counts_under (held_table current values care) (order_of current)
    current-known = subst (λ (c : State). p.counts ≡ counts_under (held_table c values care) (order_of c)) (sym dc) known

    module _ (f : Sifted) (df : f ≡ sifted_of (held_table current values care) v (order_of current)) where
      found-now : f ≡ sifted_of t v order
      found-now = df ∙ ap (λ (c : State). sifted_of (held_table c values care) v (order_of c)) dc

      best-now : f.best ≡ best_of t v order
      best-now = sifted-best t v order f found-now

      pub turn_level : f.best.level < s.n
      turn_level = best-below t v order f.best best-now turn_below

      pub turn-tried : f.best.tried ≡ s.n
      unfolding best_of
      turn-tried = ap (λ (x : Best). x.tried) best-now

      turn-sifts : sift t v order ≡ sift t (next_in t p) order
      turn-sifts = ap (λ (w : ℕ). sift t w order) dv

      pub turned : (after : List ℕ) → after ≡ moved v f.best.level order ++ drop s.n p.order
          → record {
            order = after;
            counts = f.counts;
            sifted = set p.sifted v true;
            turns = p.turns + 1;
            tried = p.tried + f.best.tried;
          }
          ≡ turn_of t p
      unfolding turn_of
      turned after e =
          let o : after ≡ sift t (next_in t p) order ++ drop s.n p.order =
          e ∙ ap (λ (xs : List ℕ). xs ++ drop s.n p.order) (best-sifts t v order f.best best-now ∙ turn-sifts) in
          let c : f.counts ≡ counts_under t (sift t (next_in t p) order) =
          sifted-counts t v order f found-now ∙ ap (counts_under t) turn-sifts in
          λ i. record {
            order = o i;
            counts = c i;
            sifted = set p.sifted (dv i) true;
            turns = p.turns + 1;
            tried = p.tried + turn-tried i;
          }
