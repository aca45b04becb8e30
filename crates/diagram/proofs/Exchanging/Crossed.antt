-- What a diagram computes, seen under an order in which levels p and p + 1 are exchanged: a root's pair stands for it.
-- Assumes nothing.
use mathlib.Core.Path.{◌≡◌, refl, sym, ap, ap₂, ◌∙◌, subst}
use mathlib.Core.Bool.{Bool, true, false, cond}
use mathlib.Core.List.{List}
use Prim.Native.Nat.{ℕ, zero, suc, ◌+◌, ◌≤◌, ◌<◌}
use native.Mathlib.Nat.{le_refl}
use native.Mathlib.Omega.{arith}
use lib.Dec.{T, eqb, eqb→eq, eqb_refl, eqb-zero-suc, eqb-suc-suc}
use lib.ListN.{get_or}
use Rattle.lists.specs.Lists.{index}
use Rattle.lists.specs.Bits.{row_number, bit}
use Rattle.lists.proofs.Bools.{split, of_T, to-T}
use Rattle.lists.proofs.Numbers.Compared.{unequal}
use Rattle.diagram.specs.Tree.{half, at}
use Rattle.diagram.specs.Networks.Diagram.{Diagram, node_at}
use Rattle.diagram.specs.Orders.Order.{row_under}
use Rattle.diagram.specs.Table.{reordered}
use Rattle.diagram.specs.Canonical.Computed.{computed_table}
use Rattle.diagram.specs.Exchanging.Exchange.{pair, both, cofactor, Exchanged}
use Rattle.diagram.proofs.Tree.{tree-ext, at_above, cond_same}
use Rattle.diagram.proofs.Networks.Reference.{from}
use Rattle.diagram.proofs.Networks.Right.{at-half}
use Rattle.diagram.proofs.Networks.Function.{function, function-gives}
use Rattle.diagram.proofs.Orders.Order.{row_of, at-reordered}
use Rattle.diagram.proofs.Canonical.Reduced.{Reduced}
use Rattle.diagram.proofs.Exchanging.CaredRows.{cared_row, cared_rows, at_rows}
use Rattle.diagram.proofs.Exchanging.Cofactor.{cofactor-later, cofactor-from, half-cofactor}
use Rattle.diagram.proofs.Exchanging.PairTree.{pair_tree, half-tree, half-cross, half-plain}

-- a row with its bits at levels p and p + 1 exchanged
abbrev swapped : ℕ → (ℕ → Bool) → ℕ → Bool
swapped p a q = cond (eqb q p) (a (suc p)) (cond (eqb q (suc p)) (a p) (a q))

swapped-upper : (p : ℕ) (a : ℕ → Bool) → swapped p a p ≡ a (suc p)
swapped-upper p a = let e : eqb p p ≡ true = of_T (eqb_refl p) in rw e

swapped-lower : (p : ℕ) (a : ℕ → Bool) → swapped p a (suc p) ≡ a p
swapped-lower p a =
    let e : eqb (suc p) p ≡ false = unequal (suc p) p (λ z. omega arith) in
    let s : eqb (suc p) (suc p) ≡ true = of_T (eqb_refl (suc p)) in
    rw (e, s)

swapped_other : (p : ℕ) (a : ℕ → Bool) (q : ℕ) → eqb q p ≡ false → eqb q (suc p) ≡ false → swapped p a q ≡ a q
swapped_other p a q e s = rw (e, s)

module _ (n : ℕ) (D : Diagram) (w : Reduced true n D) (p : ℕ) (k : suc p < n) (a : ℕ → Bool) where
  -- at any level but the two
  tree_plain : (d q r : ℕ) → q + suc d ≡ n → eqb q p ≡ false → eqb q (suc p) ≡ false → T (from true D q r)
      → ((s : ℕ) → T (from true D (suc q) s)
      → at (suc q) a (pair_tree D p d (suc q) (both s)) ≡ at (suc q) (swapped p a) (function true D d (suc q) s))
      → at q a (pair_tree D p (suc d) q (both r)) ≡ at q (swapped p a) (function true D (suc d) q r)
  tree_plain d q r e u v t below =
      let b = a q in
      let s = cofactor (node_at true D) q b r in
      let f = function true D (suc d) q r in
      at-half q a (pair_tree D p (suc d) q (both r))
      ∙ ap (at (suc q) a) (half-tree D p d q b (both r)
      ∙ ap (pair_tree D p d (suc q)) (half-plain (node_at true D) p q b (both r) u
      ∙ ap (λ (x : ℕ). both (cofactor (node_at true D) q b x)) (cond_same b r)))
      ∙ below s (cofactor-from n D w q b r t) ∙ ap (at (suc q) (swapped p a)) (sym (half-cofactor n D w b d q r e t))
      ∙ ap (λ (c : Bool). at (suc q) (swapped p a) (half c f)) (sym (swapped_other p a q u v)) ∙ sym (at-half q (swapped p a) f)

  -- at the two
  tree-cross : (d r : ℕ) → p + suc (suc d) ≡ n → T (from true D p r)
      → ((s : ℕ) → T (from true D (suc (suc p)) s)
      → at (suc (suc p)) a (pair_tree D p d (suc (suc p)) (both s)) ≡ at (suc (suc p)) (swapped p a) (function true D d (suc (suc p)) s))
      → at p a (pair_tree D p (suc (suc d)) p (both r)) ≡ at p (swapped p a) (function true D (suc (suc d)) p r)
  tree-cross d r e t below =
      let c = a p in
      let b = a (suc p) in
      let u = cofactor (node_at true D) p b r in
      let s = cofactor (node_at true D) (suc p) c u in
      let g = pair (cofactor (node_at true D) (suc p) c (cofactor (node_at true D) p false r))
      (cofactor (node_at true D) (suc p) c (cofactor (node_at true D) p true r)) in
      let f = function true D (suc (suc d)) p r in
      let h : T (from true D (suc (suc p)) s) = cofactor-from n D w (suc p) c u (cofactor-from n D w p b r t) in
      at-half p a (pair_tree D p (suc (suc d)) p (both r))
      ∙ ap (at (suc p) a) (half-tree D p (suc d) p c (both r)
      ∙ ap (pair_tree D p (suc d) (suc p)) (half-cross (node_at true D) p p c (both r) (of_T (eqb_refl p))))
      ∙ at-half (suc p) a (pair_tree D p (suc d) (suc p) g)
      ∙ ap (at (suc (suc p)) a) (half-tree D p d (suc p) b g
      ∙ ap (pair_tree D p d (suc (suc p))) (half-plain (node_at true D) p (suc p) b g (unequal (suc p) p (λ z. omega arith))
      ∙ ap both (ap (cofactor (node_at true D) (suc p) b) (side b c) ∙ cofactor-later D (suc p) b s h)))
      ∙ below s h
      ∙ ap (at (suc (suc p)) (swapped p a)) (sym (half-cofactor n D w c d (suc p) u (omega arith) (cofactor-from n D w p b r t))
      ∙ ap (half c) (sym (half-cofactor n D w b (suc d) p r e t)))
      ∙ ap₂ (λ (x y : Bool). at (suc (suc p)) (swapped p a) (half x (half y f))) (sym (swapped-lower p a)) (sym (swapped-upper p a))
      ∙ sym (at-half p (swapped p a) f ∙ at-half (suc p) (swapped p a) (half (swapped p a p) f))
    where
      side : (b c : Bool)
          → cond b (cofactor (node_at true D) (suc p) c (cofactor (node_at true D) p true r))
          (cofactor (node_at true D) (suc p) c (cofactor (node_at true D) p false r))
          ≡ cofactor (node_at true D) (suc p) c (cofactor (node_at true D) p b r)
      side true c = refl
      side false c = refl

  -- a reference's pair stands for its function with the two exchanged
  tree-at : (d q r : ℕ) → q + d ≡ n → eqb q (suc p) ≡ false → T (from true D q r)
      → at q a (pair_tree D p d q (both r)) ≡ at q (swapped p a) (function true D d q r)
  tree-at zero q r e v t = refl
  tree-at (suc zero) q r e v t =
      split (eqb q p) (λ u. let z = eqb→eq q p (to-T u) in absurd (omega arith))
      (λ u. tree_plain zero q r e u v t (λ s h. refl))
  tree-at (suc (suc d)) q r e v t =
      split (eqb q p)
      (λ u. let z = eqb→eq q p (to-T u) in
      subst (λ (x : ℕ). at x a (pair_tree D p (suc (suc d)) x (both r)) ≡ at x (swapped p a) (function true D (suc (suc d)) x r)) (sym z)
      (tree-cross d r (omega arith) (subst (λ (x : ℕ). T (from true D x r)) z t)
      (λ s h. tree-at d (suc (suc p)) s (omega arith) (unequal (suc (suc p)) (suc p) (λ y. omega arith)) h)))
      (λ u. tree_plain (suc d) q r e u v t (λ s h. tree-at (suc d) (suc q) s (omega arith) (eqb-suc-suc q p ∙ u) h))

module _ (n m : ℕ) (order other : List ℕ) (D : Diagram) (w : Reduced true n D) (p : ℕ) (k : suc p < n) (x : Exchanged n p order other) where
  -- of a drawn row, the one order's levels see what the other's see with the two exchanged
  row-swapped : (a : ℕ → Bool) (y : ℕ) → ((q : ℕ) → q < n → row_under n other y q ≡ a q)
      → (q : ℕ) → q < n → row_under n order y q ≡ swapped p a q
  row-swapped a y f q h =
      split (eqb q p)
      (λ u. subst (λ (l : ℕ). row_under n order y l ≡ swapped p a l) (sym (eqb→eq q p (to-T u)))
      (ap (λ (v : ℕ). bit n v y) (sym x.lower) ∙ f (suc p) k ∙ sym (swapped-upper p a)))
      (λ u. split (eqb q (suc p))
      (λ v. subst (λ (l : ℕ). row_under n order y l ≡ swapped p a l) (sym (eqb→eq q (suc p) (to-T v)))
      (ap (λ (v : ℕ). bit n v y) (sym x.upper) ∙ f p (omega arith) ∙ sym (swapped-lower p a)))
      (λ v. ap (λ (v : ℕ). bit n v y) (sym (x.others q u v)) ∙ f q h ∙ sym (swapped_other p a q u v)))

  -- an output's rows, reordered, are what its root's pair stands for
  pub crossed-root : (j : ℕ) → T (from true D 0 (get_or D.roots j 0))
      → reordered (computed_table true n m order D) other j ≡ cared_rows (pair_tree D p n 0 (both (get_or D.roots j 0)))
  crossed-root j t =
      let c = computed_table true n m order D in
      let r = get_or D.roots j 0 in
      let f = pair_tree D p n 0 (both r) in
      tree-ext 0 (reordered c other j) (cared_rows f)
      (λ a. let y = row_number n (λ v. a (index eqb v other)) in
      let s = row_of n other x.valid a in
      let g : (q : ℕ) → 0 ≤ q → q < 0 + n → row_under n other y q ≡ a q = λ q _ h. s.1 q (omega arith) in
      sym (at_above 0 (row_under n other y) a (reordered c other j) g) ∙ at-reordered c other x.valid j y s.0
      ∙ ap cared_row
      (function-gives true n D w.good (row_under n order y) n 0 r n (omega arith) (le_refl n) t
      ∙ at_above 0 (row_under n order y) (swapped p a) (function true D n 0 r) (λ q _ h. row-swapped a y s.1 q (omega arith))
      ∙ sym (tree-at n D w p k a n 0 r (omega arith) (eqb-zero-suc p) t))
      ∙ sym (at_rows 0 a f))
