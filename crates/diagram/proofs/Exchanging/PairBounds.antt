-- Bounds for a program that keeps a level's pairs and links: the pairs refer to the diagram's own nodes or to constants, and a level has
-- two links a pair.
-- Assumes nothing.
use mathlib.Core.Path.{◌≡◌, refl, sym, ap, ◌∙◌, subst}
use mathlib.Core.Bool.{Bool, true, false, cond}
use mathlib.Core.List.{List, [], ◌∷◌, map}
use Prim.Native.Nat.{ℕ, zero, suc, ◌*◌, ◌≤◌}
use native.Mathlib.Omega.{arith}
use lib.Dec.{T, eqb, ltb, leb→le, le→leb, ltb→lt}
use lib.ListN.{length}
use Rattle.lists.specs.Lists.{all}
use Rattle.lists.proofs.Bools.{split, to-T, and_l, and_r}
use Rattle.diagram.specs.Networks.Diagram.{Node, Diagram, edge, inverts, largest, node_at, refers, well_formed, opposite}
use Rattle.diagram.specs.Exchanging.Exchange.{Pair, both, entries_after, links_from, cofactor, half_pair, half_pairs}
use Rattle.diagram.specs.Exchanging.Exchange.{level_pairs, level_links}
use Rattle.diagram.proofs.Networks.Reference.{from, from-reached}
use Rattle.diagram.proofs.Networks.Function.{here, Good, node-edge}
use Rattle.diagram.proofs.Networks.Evaluate.{formed-roots, formed-nodes, from-top}
use Rattle.diagram.proofs.Networks.Least.{Every, here-big}
use Rattle.diagram.proofs.Exchanging.PairLevel.{entries-every}
use Rattle.diagram.proofs.Exchanging.Cofactor.{from-opposite, cofactor-here, cofactor-past}
use Rattle.diagram.proofs.Exchanging.PairTree.{half-cross, half-plain}

-- both refer to the diagram's own nodes or to constants
abbrev pub Own : Diagram → Pair → Type 0
Own D f = (f.low ≤ largest true (length D.nodes)) × (f.high ≤ largest true (length D.nodes))

pub own-side : (D : Diagram) (b : Bool) (f : Pair) → Own D f → cond b f.high f.low ≤ largest true (length D.nodes)
own-side D true f o = o.1
own-side D false f o = o.0

from-own : (D : Diagram) (q r : ℕ) → T (from true D q r) → r ≤ largest true (length D.nodes)
from-own D q r t =
    split (ltb r 2) (λ e. let h = ltb→lt r 2 (to-T e) in omega arith)
    (λ e. leb→le r (largest true (length D.nodes)) (from-reached true D q r t e).own)

own-from : (D : Diagram) (r : ℕ) → r ≤ largest true (length D.nodes) → T (from true D 0 r)
own-from D r h = from-top true D r (le→leb r (largest true (length D.nodes)) h)

module _ (n : ℕ) (D : Diagram) (good : Good true n D) where
  pub cofactor-own : (q : ℕ) (b : Bool) (r : ℕ) → r ≤ largest true (length D.nodes)
      → cofactor (node_at true D) q b r ≤ largest true (length D.nodes)
  cofactor-own q b r h =
      split (here true D q r)
      (λ e. let c = node_at true D r in
      subst (λ (s : ℕ). s ≤ largest true (length D.nodes)) (sym (cofactor-here D q b r e))
      (from-own D (suc c.level) (opposite (inverts true r) (edge b c))
      (from-opposite D (inverts true r) (suc c.level) (edge b c)
      (node-edge true n D good 0 r (own-from D r h) (here-big true D q r e) b))))
      (λ e. subst (λ (s : ℕ). s ≤ largest true (length D.nodes)) (sym (cofactor-past D q b r e)) h)

  module _ (p : ℕ) where
    pub half-own : (q : ℕ) (b : Bool) (f : Pair) → Own D f → Own D (half_pair (node_at true D) p q b f)
    half-own q b f o =
        split (eqb q p)
        (λ e. subst (Own D) (sym (half-cross (node_at true D) p q b f e)) (
          cofactor-own (suc p) b (cofactor (node_at true D) p false f.low) (cofactor-own p false f.low o.0),
          cofactor-own (suc p) b (cofactor (node_at true D) p true f.high) (cofactor-own p true f.high o.1),
        ))
        (λ e. let h = cofactor-own q b (cond b f.high f.low) (own-side D b f o) in
        subst (Own D) (sym (half-plain (node_at true D) p q b f e)) (h, h))

    halves-own : (q : ℕ) (fs : List Pair) → Every (Own D) fs → Every (Own D) (half_pairs (node_at true D) p q fs)
    halves-own q [] o = tt
    halves-own q (f ∷ fs) o = (half-own q false f o.0, (half-own q true f o.0, halves-own q fs o.1))

    levels-own : (fs : List Pair) → Every (Own D) fs → (q : ℕ) → Every (Own D) (level_pairs (node_at true D) p fs q)
    unfolding level_pairs
    levels-own fs o zero = entries-every (Own D) [] fs tt o
    levels-own fs o (suc q) =
        entries-every (Own D) [] (half_pairs (node_at true D) p q (level_pairs (node_at true D) p fs q)) tt
        (halves-own q (level_pairs (node_at true D) p fs q) (levels-own fs o q))

roots-own : (D : Diagram) (rs : List ℕ) → T (all (refers true D) rs) → Every (Own D) (map both rs)
roots-own D [] t = tt
roots-own D (r ∷ rs) t =
    let h = leb→le r (largest true (length D.nodes)) (and_l (refers true D r) (all (refers true D) rs) t) in
    ((h, h), roots-own D rs (and_r (refers true D r) (all (refers true D) rs) t))

module _ (n m p : ℕ) (D : Diagram) (w : T (well_formed true n m D)) (q : ℕ) where
  pub pairs-own : Every (Own D) (level_pairs (node_at true D) p (map both D.roots) q)
  pairs-own =
      levels-own n D (formed-nodes true n m D w) p (map both D.roots) (roots-own D D.roots (formed-roots true n m D w)) q

-- lengths

pub links_from-length : (gs fs : List Pair) → length (links_from gs fs) ≡ length fs
links_from-length gs [] = refl
links_from-length gs (f ∷ fs) = ap suc (links_from-length (entries_after gs f) fs)

pub half_pairs-length : (node : ℕ → Node) (p q : ℕ) (fs : List Pair) → length (half_pairs node p q fs) ≡ 2 * length fs
half_pairs-length node p q [] = refl
half_pairs-length node p q (f ∷ fs) = omega (arith, half_pairs-length node p q fs)

pub level-room : (node : ℕ → Node) (p : ℕ) (fs : List Pair) (q : ℕ) → length (level_links node p fs q) ≡ 2 * length (level_pairs node p fs q)
unfolding level_links
level-room node p fs q =
    links_from-length [] (half_pairs node p q (level_pairs node p fs q)) ∙ half_pairs-length node p q (level_pairs node p fs q)
