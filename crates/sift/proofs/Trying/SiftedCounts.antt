-- What sifting one variable finds: the best level, and the counts of the order with the variable there.
-- Assumes nothing.
use mathlib.Core.Path.{◌≡◌, ap, ◌∙◌}
use mathlib.Core.List.{List}
use Prim.Native.Nat.{ℕ, ◌<◌}
use Rattle.diagram.specs.Orders.Order.{moved}
use Rattle.diagram.specs.Table.{Table}
use Rattle.diagram.specs.Orders.Sift.{sift}
use Rattle.sift.specs.declared.trials.Best.{Best}
use Rattle.sift.specs.declared.trials.Sifted.{Sifted}
use Rattle.fill.specs.Calls.{counts_of}
use Rattle.sift.specs.Inner.Counts.{counts_under, MovedCounts}
use Rattle.sift.specs.Inner.Trials.{best_of, sifted_of}
use Rattle.sift.proofs.Trying.BestLevel.{best-below}

module _ (t : Table) (v : ℕ) (order : List ℕ) where
  -- the order with v at its best level is the one that sifting leaves
  pub best-sifts : (b : Best) → b ≡ best_of t v order → moved v b.level order ≡ sift t v order
  unfolding sift best_of
  best-sifts b d = ap (λ (x : Best). moved v x.level order) d

  -- the counts are read off at the best level
  pub sifted-made : v < t.n → (b : Best) → b ≡ best_of t v order → (cs : List ℕ) → MovedCounts t v order cs → (left : List ℕ)
      → left ≡ counts_of b.level cs → record { best = b; counts = left } ≡ sifted_of t v order
  unfolding sifted_of
  sifted-made h b d cs m left e =
      let c : left ≡ counts_under t (sift t v order) =
      e ∙ m.at b.level (best-below t v order b d h) ∙ ap (counts_under t) (best-sifts b d) in
      λ i. record { best = d i; counts = c i }

  module _ (r : Sifted) (d : r ≡ sifted_of t v order) where
    pub sifted-best : r.best ≡ best_of t v order
    unfolding sifted_of
    sifted-best = ap (λ (x : Sifted). x.best) d

    pub sifted-counts : r.counts ≡ counts_under t (sift t v order)
    unfolding sifted_of
    sifted-counts = ap (λ (x : Sifted). x.counts) d
