-- An exchange reads the diagram's own nodes alone: its pairs and links are the same by any function that gives those.
-- Assumes nothing.
use mathlib.Core.Path.{◌≡◌, refl, sym, ap, ap₂, ◌∙◌}
use mathlib.Core.Bool.{Bool, true, false, not, cond, ◌&&◌}
use mathlib.Core.List.{List, [], ◌∷◌, map}
use Prim.Native.Nat.{ℕ, zero, suc, ◌≤◌}
use lib.Dec.{T, eqb, ltb, nltb→le}
use lib.ListN.{length}
use Rattle.lists.proofs.Bools.{split, to-not}
use Rattle.lists.proofs.Numbers.UpTo.{map-up_to-cong}
use Rattle.diagram.specs.Filling.Fill.{Link}
use Rattle.diagram.specs.Networks.Diagram.{Node, Diagram, edge, inverts, largest, node_at, well_formed, opposite}
use Rattle.diagram.specs.Exchanging.Exchange.{Pair, pair, both, entries_from, links_from, cofactor, half_pair, half_pairs}
use Rattle.diagram.specs.Exchanging.Exchange.{level_pairs, level_links, exchanged_trace}
use Rattle.diagram.proofs.Networks.Evaluate.{formed-nodes}
use Rattle.diagram.proofs.Networks.Least.{Every}
use Rattle.diagram.proofs.Exchanging.PairTree.{half-cross, half-plain}
use Rattle.diagram.proofs.Exchanging.PairBounds.{Own, own-side, cofactor-own, pairs-own}

module _ (n m p : ℕ) (D : Diagram) (w : T (well_formed true n m D)) (node : ℕ → Node)
    (own : (r : ℕ) → 2 ≤ r → r ≤ largest true (length D.nodes) → node r ≡ node_at true D r) where
  cofactor-as : (q : ℕ) (b : Bool) (r : ℕ) → r ≤ largest true (length D.nodes) → cofactor node q b r ≡ cofactor (node_at true D) q b r
  cofactor-as q b r h =
      split (ltb r 2) (λ e. rw e)
      (λ e. ap (λ (c : Node). cond (not (ltb r 2) && eqb c.level q) (opposite (inverts true r) (edge b c)) r)
      (own r (nltb→le r 2 (to-not e)) h))

  -- an own pair has the same halves
  half-as : (q : ℕ) (b : Bool) (f : Pair) → Own D f → half_pair node p q b f ≡ half_pair (node_at true D) p q b f
  half-as q b f o =
      split (eqb q p)
      (λ e. half-cross node p q b f e ∙ ap₂ pair (twice false f.low o.0) (twice true f.high o.1)
      ∙ sym (half-cross (node_at true D) p q b f e))
      (λ e. half-plain node p q b f e ∙ ap both (cofactor-as q b (cond b f.high f.low) (own-side D b f o))
      ∙ sym (half-plain (node_at true D) p q b f e))
    where
      twice : (c : Bool) (r : ℕ) → r ≤ largest true (length D.nodes)
          → cofactor node (suc p) b (cofactor node p c r) ≡ cofactor (node_at true D) (suc p) b (cofactor (node_at true D) p c r)
      twice c r h =
          ap (cofactor node (suc p) b) (cofactor-as p c r h)
          ∙ cofactor-as (suc p) b (cofactor (node_at true D) p c r) (cofactor-own n D (formed-nodes true n m D w) p c r h)

  halves-as : (q : ℕ) (fs : List Pair) → Every (Own D) fs → half_pairs node p q fs ≡ half_pairs (node_at true D) p q fs
  halves-as q [] o = refl
  halves-as q (f ∷ fs) o =
      ap₂ ◌∷◌ (half-as q false f o.0) (ap₂ ◌∷◌ (half-as q true f o.0) (halves-as q fs o.1))

  step : (q : ℕ) → level_pairs node p (map both D.roots) q ≡ level_pairs (node_at true D) p (map both D.roots) q
      → half_pairs node p q (level_pairs node p (map both D.roots) q)
      ≡ half_pairs (node_at true D) p q (level_pairs (node_at true D) p (map both D.roots) q)
  step q e =
      ap (half_pairs node p q) e ∙ halves-as q (level_pairs (node_at true D) p (map both D.roots) q) (pairs-own n m p D w q)

  -- so each level has the same pairs
  pub pairs-as : (q : ℕ) → level_pairs node p (map both D.roots) q ≡ level_pairs (node_at true D) p (map both D.roots) q
  unfolding level_pairs
  pairs-as zero = refl
  pairs-as (suc q) = ap (entries_from []) (step q (pairs-as q))

  pub links-as : (q : ℕ) → level_links node p (map both D.roots) q ≡ level_links (node_at true D) p (map both D.roots) q
  unfolding level_links
  links-as q = ap (links_from []) (step q (pairs-as q))

  pub trace-as : (k : ℕ) → exchanged_trace node p k (map both D.roots) ≡ exchanged_trace (node_at true D) p k (map both D.roots)
  unfolding exchanged_trace
  trace-as k =
      let fs : List Pair = map both D.roots in
      ap (λ (l : List (List Link)). links_from [] fs ∷ l)
      (map-up_to-cong k (level_links node p fs) (level_links (node_at true D) p fs) (λ q h. links-as q))
