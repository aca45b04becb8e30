-- What a pair of references stands for, where levels p and p + 1 are exchanged: the tree whose halves are what the pair's halves stand
-- for; and which pairs are entries of a level.
-- Assumes nothing.
use mathlib.Core.Path.{◌≡◌, refl, sym, ap, ap₂, ◌∙◌}
use mathlib.Core.Bool.{Bool, true, false, cond}
use Prim.Native.Nat.{ℕ, zero, suc}
use native.Mathlib.Omega.{arith}
use lib.Dec.{T, eqb, ltb}
use Rattle.lists.proofs.Bools.{split}
use Rattle.diagram.specs.Tree.{Tree, leaf, node, half, full}
use Rattle.diagram.specs.Networks.Diagram.{Node, Diagram, node_at, opposite}
use Rattle.diagram.specs.Exchanging.Exchange.{Pair, pair, both, opposite_pair, cofactor, half_pair}
use Rattle.diagram.proofs.Tree.{cond_same}
use Rattle.diagram.proofs.Networks.Reference.{from, from-constant, from-sooner}
use Rattle.diagram.proofs.Exchanging.Cofactor.{from-opposite, cofactor-constant, cofactor-opposite}

module _ (node : ℕ → Node) (p : ℕ) where
  -- the halves of a pair, at level p and at any other

  pub half-cross : (q : ℕ) (b : Bool) (f : Pair) → eqb q p ≡ true
      → half_pair node p q b f
      ≡ pair (cofactor node (suc p) b (cofactor node p false f.low)) (cofactor node (suc p) b (cofactor node p true f.high))
  half-cross q b f e = rw e

  pub half-plain : (q : ℕ) (b : Bool) (f : Pair) → eqb q p ≡ false
      → half_pair node p q b f ≡ both (cofactor node q b (cond b f.high f.low))
  half-plain q b f e = rw e

module _ (D : Diagram) (p : ℕ) where
  abbrev pub pair_tree : (d : ℕ) → ℕ → Pair → Tree Bool d
  pair_tree zero q f = leaf (eqb f.low 1)
  pair_tree (suc d) q f =
      node (pair_tree d (suc q) (half_pair (node_at true D) p q false f)) (pair_tree d (suc q) (half_pair (node_at true D) p q true f))

  pub half-tree : (d q : ℕ) (b : Bool) (f : Pair) → half b (pair_tree (suc d) q f) ≡ pair_tree d (suc q) (half_pair (node_at true D) p q b f)
  half-tree d q true f = refl
  half-tree d q false f = refl

  pub half-opposite : (q : ℕ) (b : Bool) (f : Pair)
      → half_pair (node_at true D) p q b (opposite_pair true f) ≡ opposite_pair true (half_pair (node_at true D) p q b f)
  half-opposite q b f =
      split (eqb q p)
      (λ e. half-cross (node_at true D) p q b (opposite_pair true f) e ∙ ap₂ pair (twice false f.low) (twice true f.high)
      ∙ ap (opposite_pair true) (sym (half-cross (node_at true D) p q b f e)))
      (λ e. half-plain (node_at true D) p q b (opposite_pair true f) e ∙ ap both (side b)
      ∙ ap (opposite_pair true) (sym (half-plain (node_at true D) p q b f e)))
    where
      twice : (c : Bool) (r : ℕ)
          → cofactor (node_at true D) (suc p) b (cofactor (node_at true D) p c (opposite true r))
          ≡ opposite true (cofactor (node_at true D) (suc p) b (cofactor (node_at true D) p c r))
      twice c r =
          ap (cofactor (node_at true D) (suc p) b) (cofactor-opposite D p c r)
          ∙ cofactor-opposite D (suc p) b (cofactor (node_at true D) p c r)

      side : (c : Bool) → cofactor (node_at true D) q b (cond c (opposite true f.high) (opposite true f.low))
          ≡ opposite true (cofactor (node_at true D) q b (cond c f.high f.low))
      side true = cofactor-opposite D q b f.high
      side false = cofactor-opposite D q b f.low

  -- a constant is its own half
  half-constant : (q : ℕ) (b : Bool) (r : ℕ) → ltb r 2 ≡ true → half_pair (node_at true D) p q b (both r) ≡ both r
  half-constant q b r c =
      split (eqb q p)
      (λ e. half-cross (node_at true D) p q b (both r) e ∙ ap₂ pair (twice false) (twice true))
      (λ e. half-plain (node_at true D) p q b (both r) e
      ∙ ap both (ap (cofactor (node_at true D) q b) (cond_same b r) ∙ cofactor-constant D q b r c))
    where
      twice : (x : Bool) → cofactor (node_at true D) (suc p) b (cofactor (node_at true D) p x r) ≡ r
      twice x = ap (cofactor (node_at true D) (suc p) b) (cofactor-constant D p x r c) ∙ cofactor-constant D (suc p) b r c

  pub constant-tree : (d q r : ℕ) → ltb r 2 ≡ true → pair_tree d q (both r) ≡ full (eqb r 1) d
  constant-tree zero q r c = refl
  constant-tree (suc d) q r c =
      let below : (b : Bool) → pair_tree d (suc q) (half_pair (node_at true D) p q b (both r)) ≡ full (eqb r 1) d =
      λ b. ap (pair_tree d (suc q)) (half-constant q b r c) ∙ constant-tree d (suc q) r c in
      ap₂ node (below false) (below true)

  -- the level from which on the references of level q's pairs are
  abbrev pub start : ℕ → ℕ
  start q = cond (eqb q (suc p)) (suc q) q

  -- an entry's pair at level q: one reference from q on, but at level p + 1 any two from the next level on
  pub record Entry (q : ℕ) (f : Pair) : Type 0 where
    pub lows : T (from true D (start q) f.low)
    pub highs : T (from true D (start q) f.high)
    pub one : eqb q (suc p) ≡ false → f.low ≡ f.high

  pub start-from : (q r : ℕ) → T (from true D (start q) r) → T (from true D q r)
  start-from q r t = from-sooner true D q (start q) r (split (eqb q (suc p)) (λ e. rw e (omega arith)) (λ e. rw e (omega arith))) t

  pub start-deep : (q r : ℕ) → eqb q (suc p) ≡ true → T (from true D (start q) r) → T (from true D (suc q) r)
  start-deep q r e t = rw e at t

  pub entry-both : (q r : ℕ) → eqb q (suc p) ≡ false → T (from true D q r) → Entry q (both r)
  entry-both q r e t = let s : T (from true D (start q) r) = rw e t in record { lows = s; highs = s; one = λ _. refl }

  pub entry-constant : (q r : ℕ) → ltb r 2 ≡ true → Entry q (both r)
  entry-constant q r c =
      let s = from-constant true D (start q) r c in
      record { lows = s; highs = s; one = λ _. refl }

  pub entry-opposite : (q : ℕ) (f : Pair) → Entry q f → Entry q (opposite_pair true f)
  entry-opposite q f x =
      record {
        lows = from-opposite D true (start q) f.low x.lows;
        highs = from-opposite D true (start q) f.high x.highs;
        one = λ e. ap (opposite true) (x.one e);
      }
