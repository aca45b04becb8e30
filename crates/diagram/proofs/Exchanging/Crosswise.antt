-- The pairs of a level stand for functions as `PairLevel` asks, in a reduced diagram whose levels p and p + 1 are exchanged: both halves
-- tell the pair, as both cofactors tell the reference.
-- Assumes nothing.
use mathlib.Core.Path.{◌≡◌, sym, ap, ap₂, ◌∙◌, subst}
use mathlib.Core.Bool.{Bool, true, false, cond}
use mathlib.Core.List.{List, [], ◌∷◌}
use Prim.Native.Nat.{ℕ, zero, suc, ◌+◌, ◌<◌}
use native.Mathlib.Omega.{arith}
use lib.Dec.{T, eqb, eqb→eq, eqb-suc-suc}
use Rattle.lists.specs.Bits.{digit}
use Rattle.lists.proofs.Bools.{split, to-T, absurd-T}
use Rattle.lists.proofs.Numbers.Compared.{unequal}
use Rattle.diagram.specs.Tree.{leaf, node, half, full, first, inverted}
use Rattle.diagram.specs.Networks.Diagram.{Diagram, node_at}
use Rattle.diagram.specs.Exchanging.Exchange.{Pair, opposite_pair, cofactor, half_pair, half_pairs}
use Rattle.diagram.proofs.Networks.Reference.{from}
use Rattle.diagram.proofs.Networks.Least.{Every}
use Rattle.diagram.proofs.Canonical.Reduced.{Reduced, last, constant-digit, digit-constant}
use Rattle.diagram.proofs.Exchanging.Pairs.{pair-equal}
use Rattle.diagram.proofs.Exchanging.PairLevel.{Stands}
use Rattle.diagram.proofs.Exchanging.Cofactor.{cofactor-later, constant-opposite, cofactor-from, cofactor-injective}
use Rattle.diagram.proofs.Exchanging.PairTree.{pair_tree, half-tree, half-cross, half-plain, half-opposite, constant-tree}
use Rattle.diagram.proofs.Exchanging.PairTree.{start, Entry, start-from, start-deep, entry-both, entry-constant, entry-opposite}

-- by bits

each : (f g : Bool → ℕ) → f false ≡ g false → f true ≡ g true → (b : Bool) → f b ≡ g b
each f g e q true = q
each f g e q false = e

module _ (n : ℕ) (D : Diagram) (w : Reduced true n D) (p : ℕ) (k : suc p < n) where
  -- the halves of an entry are such pairs of the next level
  entry-half : (q : ℕ) (b : Bool) (f : Pair) → Entry D p q f → Entry D p (suc q) (half_pair (node_at true D) p q b f)
  entry-half q b f x =
      split (eqb q p)
      (λ e. let z : q ≡ p = eqb→eq q p (to-T e) in
      let s : eqb (suc q) (suc p) ≡ true = eqb-suc-suc q p ∙ e in
      let l : suc (suc p) ≡ start D p (suc q) = ap (λ (y : ℕ). suc (suc y)) (sym z) ∙ rw s in
      let deep : (c : Bool) (r : ℕ) → T (from true D q r)
      → T (from true D (start D p (suc q)) (cofactor (node_at true D) (suc p) b (cofactor (node_at true D) p c r))) =
      λ c r t. subst (λ (y : ℕ). T (from true D y (cofactor (node_at true D) (suc p) b (cofactor (node_at true D) p c r)))) l
      (cofactor-from n D w (suc p) b (cofactor (node_at true D) p c r)
      (cofactor-from n D w p c r (subst (λ (y : ℕ). T (from true D y r)) z t))) in
      subst (Entry D p (suc q)) (sym (half-cross (node_at true D) p q b f e))
      (record {
        lows = deep false f.low (start-from D p q f.low x.lows);
        highs = deep true f.high (start-from D p q f.high x.highs);
        one = λ v. absurd-T (to-T s) v;
      }))
      (λ e. subst (Entry D p (suc q)) (sym (half-plain (node_at true D) p q b f e))
      (entry-both D p (suc q) (cofactor (node_at true D) q b (cond b f.high f.low)) (eqb-suc-suc q p ∙ e)
      (cofactor-from n D w q b (cond b f.high f.low) (side b))))
    where
      side : (c : Bool) → T (from true D q (cond c f.high f.low))
      side true = start-from D p q f.high x.highs
      side false = start-from D p q f.low x.lows

  pub entry-halves : (q : ℕ) (fs : List Pair) → Every (Entry D p q) fs → Every (Entry D p (suc q)) (half_pairs (node_at true D) p q fs)
  entry-halves q [] x = tt
  entry-halves q (f ∷ fs) x = (entry-half q false f x.0, (entry-half q true f x.0, entry-halves q fs x.1))

  -- inverse pairs stand for inverse functions
  tree-turned : (d q : ℕ) (f : Pair) → q + d ≡ n → Entry D p q f
      → pair_tree D p d q (opposite_pair true f) ≡ inverted true (pair_tree D p d q f)
  tree-turned zero q f e x = ap leaf (constant-opposite f.low (last true n D w q f.low e (start-from D p q f.low x.lows)))
  tree-turned (suc d) q f e x =
      let below : (b : Bool) → pair_tree D p d (suc q) (half_pair (node_at true D) p q b (opposite_pair true f))
      ≡ inverted true (pair_tree D p d (suc q) (half_pair (node_at true D) p q b f)) =
      λ b. ap (pair_tree D p d (suc q)) (half-opposite D p q b f)
      ∙ tree-turned d (suc q) (half_pair (node_at true D) p q b f) (omega arith) (entry-half q b f x) in
      ap₂ node (below false) (below true)

  -- where a pair is one reference, its low tells it
  entry-equal : (q : ℕ) (f g : Pair) → Entry D p q f → Entry D p q g → eqb q (suc p) ≡ false → f.low ≡ g.low → f ≡ g
  entry-equal q f g x y v l = pair-equal f g l (sym (x.one v) ∙ l ∙ y.one v)

  -- both halves tell the pair
  half-injective : (q : ℕ) (f g : Pair) → q < n → Entry D p q f → Entry D p q g
      → ((b : Bool) → half_pair (node_at true D) p q b f ≡ half_pair (node_at true D) p q b g) → f ≡ g
  half-injective q f g h x y s =
      split (eqb q p) cross
      (λ e. let c : (b : Bool) → cofactor (node_at true D) q b (cond b f.high f.low)
      ≡ cofactor (node_at true D) q b (cond b g.high g.low) =
      λ b. ap (λ (m : Pair). m.low) (sym (half-plain (node_at true D) p q b f e) ∙ s b ∙ half-plain (node_at true D) p q b g e) in
      split (eqb q (suc p)) (λ v. under v c) (λ v. plain v c))
    where
      at_p : eqb q p ≡ true → (r : ℕ) → T (from true D (start D p q) r) → T (from true D p r)
      at_p e r t = subst (λ (y : ℕ). T (from true D y r)) (eqb→eq q p (to-T e)) (start-from D p q r t)

      -- at level p the cofactors by the lower variable, then those by the upper
      cross : eqb q p ≡ true → f ≡ g
      cross e =
          let z : q ≡ p = eqb→eq q p (to-T e) in
          let v : eqb q (suc p) ≡ false = unequal q (suc p) (λ y. omega arith) in
          let t = at_p e in
          let lo : cofactor (node_at true D) p false f.low ≡ cofactor (node_at true D) p false g.low =
          cofactor-injective n D w (suc p) (cofactor (node_at true D) p false f.low) (cofactor (node_at true D) p false g.low) k
          (cofactor-from n D w p false f.low (t f.low x.lows)) (cofactor-from n D w p false g.low (t g.low y.lows))
          (λ b. ap (λ (m : Pair). m.low) (sym (half-cross (node_at true D) p q b f e) ∙ s b ∙ half-cross (node_at true D) p q b g e)) in
          let hi : cofactor (node_at true D) p true f.high ≡ cofactor (node_at true D) p true g.high =
          cofactor-injective n D w (suc p) (cofactor (node_at true D) p true f.high) (cofactor (node_at true D) p true g.high) k
          (cofactor-from n D w p true f.high (t f.high x.highs)) (cofactor-from n D w p true g.high (t g.high y.highs))
          (λ b. ap (λ (m : Pair). m.high) (sym (half-cross (node_at true D) p q b f e) ∙ s b ∙ half-cross (node_at true D) p q b g e)) in
          entry-equal q f g x y v
          (cofactor-injective n D w p f.low g.low (omega arith) (t f.low x.lows) (t g.low y.lows)
          (each (λ b. cofactor (node_at true D) p b f.low) (λ b. cofactor (node_at true D) p b g.low) lo
          (ap (cofactor (node_at true D) p true) (x.one v) ∙ hi ∙ ap (cofactor (node_at true D) p true) (sym (y.one v)))))

      -- at level p + 1 each half is one of the pair
      under : eqb q (suc p) ≡ true → ((b : Bool) → cofactor (node_at true D) q b (cond b f.high f.low)
          ≡ cofactor (node_at true D) q b (cond b g.high g.low)) → f ≡ g
      under v c =
          let t : (b : Bool) (r : ℕ) → T (from true D (start D p q) r) → cofactor (node_at true D) q b r ≡ r =
          λ b r u. cofactor-later D q b r (start-deep D p q r v u) in
          pair-equal f g (sym (t false f.low x.lows) ∙ c false ∙ t false g.low y.lows)
          (sym (t true f.high x.highs) ∙ c true ∙ t true g.high y.highs)

      plain : eqb q (suc p) ≡ false → ((b : Bool) → cofactor (node_at true D) q b (cond b f.high f.low)
          ≡ cofactor (node_at true D) q b (cond b g.high g.low)) → f ≡ g
      plain v c =
          entry-equal q f g x y v
          (cofactor-injective n D w q f.low g.low h (start-from D p q f.low x.lows) (start-from D p q g.low y.lows)
          (each (λ b. cofactor (node_at true D) q b f.low) (λ b. cofactor (node_at true D) q b g.low) (c false)
          (ap (cofactor (node_at true D) q true) (x.one v) ∙ c true ∙ ap (cofactor (node_at true D) q true) (sym (y.one v)))))

  tree-injective : (d q : ℕ) (f g : Pair) → q + d ≡ n → Entry D p q f → Entry D p q g
      → pair_tree D p d q f ≡ pair_tree D p d q g → f ≡ g
  tree-injective zero q f g e x y s =
      let t : (r : ℕ) → T (from true D (start D p q) r) → r ≡ digit (eqb r 1) =
      λ r u. constant-digit r (last true n D w q r e (start-from D p q r u)) in
      entry-equal q f g x y (unequal q (suc p) (λ z. omega arith))
      (t f.low x.lows ∙ ap digit (ap first s) ∙ sym (t g.low y.lows))
  tree-injective (suc d) q f g e x y s =
      half-injective q f g (omega arith) x y
      (λ b. tree-injective d (suc q) (half_pair (node_at true D) p q b f) (half_pair (node_at true D) p q b g) (omega arith)
      (entry-half q b f x) (entry-half q b g y)
      (sym (half-tree D p d q b f) ∙ ap (half b) s ∙ half-tree D p d q b g))

  -- so a level goes by its pairs
  pub stands : (d q : ℕ) → q + d ≡ n → Stands (pair_tree D p d q) (Entry D p q)
  stands d q e =
      record {
        injective = λ f g x y s. tree-injective d q f g e x y s;
        turns = λ f x. entry-opposite D p q f x;
        turned = λ f x. tree-turned d q f e x;
        fixes = λ v. entry-constant D p q (digit v) (digit-constant v).0;
        fixed = λ v. constant-tree D p d q (digit v) (digit-constant v).0 ∙ ap (λ (b : Bool). full b d) (digit-constant v).1;
      }
