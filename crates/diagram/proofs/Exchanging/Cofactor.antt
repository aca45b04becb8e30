-- Cofactors of references: they are to the next level on, stand for the halves of the reference's function, and tell the reference.
-- Assumes nothing.
use mathlib.Core.Path.{◌≡◌, refl, sym, ap, ap₂, ◌∙◌, subst}
use mathlib.Core.Bool.{Bool, true, false, not, cond, ◌&&◌, ◌||◌}
use Prim.Native.Nat.{ℕ, zero, suc, ◌+◌, ◌-◌, ◌<◌}
use native.Mathlib.Omega.{arith}
use lib.Dec.{T, eqb, ltb, leb, eqb→eq}
use Rattle.lists.proofs.Bools.{split, to-T, absurd-T}
use Rattle.diagram.specs.Tree.{Tree, leaf, node, half, inverted}
use Rattle.diagram.specs.Networks.Diagram.{Node, Diagram, edge, inverts, node_at, opposite}
use Rattle.diagram.specs.Exchanging.Exchange.{cofactor}
use Rattle.diagram.proofs.Tree.{inverted-false, inverted-inverted, node-halves}
use Rattle.diagram.proofs.Networks.Reference.{not-below, from, from-reached}
use Rattle.diagram.proofs.Networks.Function.{here, function, from_next}
use Rattle.diagram.proofs.Networks.Least.{node_function, function-here, function-past, here-big, here-level}
use Rattle.diagram.proofs.Canonical.Reduced.{Reduced, edge_here, last, half-here, half-past, function-injective}
use Rattle.diagram.proofs.Exchanging.Pairs.{inverts-opposite, opposite-small, opposite-node, opposite-refers, opposite-not}

module _ (D : Diagram) where
  -- a reference and its inverse are from the same levels on, and stand at the same one

  pub from-opposite : (i : Bool) (q r : ℕ) → T (from true D q r) → T (from true D q (opposite i r))
  from-opposite false q r t = t
  from-opposite true q r t =
      subst T
      (sym (ap₂ ◌||◌ (opposite-small r)
      (ap₂ ◌&&◌ (opposite-refers D r) (ap (λ (c : Node). leb q c.level) (opposite-node D r))))) t

  here-opposite : (q r : ℕ) → here true D q (opposite true r) ≡ here true D q r
  here-opposite q r = ap₂ (λ (b : Bool) (c : Node). not b && eqb c.level q) (opposite-small r) (opposite-node D r)

  -- the cofactor of a reference to a node at the level, and of any other

  pub cofactor-here : (q : ℕ) (b : Bool) (r : ℕ) → here true D q r ≡ true
      → cofactor (node_at true D) q b r ≡ opposite (inverts true r) (edge b (node_at true D r))
  cofactor-here q b r e = ap (λ (t : Bool). cond t (opposite (inverts true r) (edge b (node_at true D r))) r) e

  pub cofactor-past : (q : ℕ) (b : Bool) (r : ℕ) → here true D q r ≡ false → cofactor (node_at true D) q b r ≡ r
  cofactor-past q b r e = ap (λ (t : Bool). cond t (opposite (inverts true r) (edge b (node_at true D r))) r) e

  -- of a reference from a later level on it is the reference
  pub cofactor-later : (q : ℕ) (b : Bool) (r : ℕ) → T (from true D (suc q) r) → cofactor (node_at true D) q b r ≡ r
  cofactor-later q b r t =
      cofactor-past q b r
      (split (here true D q r)
      (λ e. let h = (from-reached true D (suc q) r t (here-big true D q r e)).deep in
      let z = eqb→eq (node_at true D r).level q (here-level true D q r e) in
      absurd (omega arith))
      (λ e. e))

  pub cofactor-constant : (q : ℕ) (b : Bool) (r : ℕ) → ltb r 2 ≡ true → cofactor (node_at true D) q b r ≡ r
  cofactor-constant q b r e = cofactor-past q b r (ap (λ (t : Bool). not t && eqb (node_at true D r).level q) e)

  -- the cofactor of the inverse is the inverse of the cofactor
  pub cofactor-opposite : (q : ℕ) (b : Bool) (r : ℕ)
      → cofactor (node_at true D) q b (opposite true r) ≡ opposite true (cofactor (node_at true D) q b r)
  cofactor-opposite q b r =
      split (here true D q r)
      (λ e. cofactor-here q b (opposite true r) (here-opposite q r ∙ e)
      ∙ ap₂ (λ (i : Bool) (c : Node). opposite i (edge b c)) (inverts-opposite r) (opposite-node D r)
      ∙ opposite-not (inverts true r) (edge b (node_at true D r)) ∙ ap (opposite true) (sym (cofactor-here q b r e)))
      (λ e. cofactor-past q b (opposite true r) (here-opposite q r ∙ e) ∙ ap (opposite true) (sym (cofactor-past q b r e)))

inverted-not : {d : ℕ} (i : Bool) (t : Tree Bool d) → inverted (not i) t ≡ inverted true (inverted i t)
inverted-not true t = inverted-false t ∙ sym (inverted-inverted true t)
inverted-not false t = ap (inverted true) (sym (inverted-false t))

-- the constants are each other's inverse
pub constant-opposite : (r : ℕ) → ltb r 2 ≡ true → eqb (opposite true r) 1 ≡ not (eqb r 1)
constant-opposite zero e = refl
constant-opposite (suc zero) e = refl
constant-opposite (suc (suc r)) e = absurd-T (to-T e) (not-below (suc (suc r)) 2 (omega arith))

module _ (n : ℕ) (D : Diagram) (w : Reduced true n D) where
  pub cofactor-from : (q : ℕ) (b : Bool) (r : ℕ) → T (from true D q r) → T (from true D (suc q) (cofactor (node_at true D) q b r))
  cofactor-from q b r t =
      split (here true D q r)
      (λ e. subst (λ (s : ℕ). T (from true D (suc q) s)) (sym (cofactor-here D q b r e))
      (from-opposite D (inverts true r) (suc q) (edge b (node_at true D r)) (edge_here true n D w b q r t e)))
      (λ e. subst (λ (s : ℕ). T (from true D (suc q) s)) (sym (cofactor-past D q b r e)) (from_next true n D w.good q r t e))

  -- the inverse reference's function is the inverse
  function-opposite : (d q r : ℕ) → q + d ≡ n → T (from true D q r)
      → function true D d q (opposite true r) ≡ inverted true (function true D d q r)
  function-opposite zero q r e t = ap leaf (constant-opposite r (last true n D w q r e t))
  function-opposite (suc d) q r e t =
      split (here true D q r)
      (λ h. function-here true D d q (opposite true r) (here-opposite D q r ∙ h)
      ∙ ap₂ (λ (i : Bool) (c : Node). inverted i (node_function true D d q c)) (inverts-opposite r) (opposite-node D r)
      ∙ inverted-not (inverts true r) (node_function true D d q (node_at true D r))
      ∙ ap (inverted true) (sym (function-here true D d q r h)))
      (λ h. let below = function-opposite d (suc q) r (omega arith) (from_next true n D w.good q r t h) in
      function-past true D d q (opposite true r) (here-opposite D q r ∙ h) ∙ ap₂ node below below
      ∙ ap (inverted true) (sym (function-past true D d q r h)))

  function-turned : (i : Bool) (d q r : ℕ) → q + d ≡ n → T (from true D q r)
      → function true D d q (opposite i r) ≡ inverted i (function true D d q r)
  function-turned true d q r e t = function-opposite d q r e t
  function-turned false d q r e t = sym (inverted-false (function true D d q r))

  -- a half of a reference's function is its cofactor's
  pub half-cofactor : (b : Bool) (d q r : ℕ) → q + suc d ≡ n → T (from true D q r)
      → half b (function true D (suc d) q r) ≡ function true D d (suc q) (cofactor (node_at true D) q b r)
  half-cofactor b d q r e t =
      split (here true D q r)
      (λ h. half-here true n D w b d q r h
      ∙ sym (function-turned (inverts true r) d (suc q) (edge b (node_at true D r)) (omega arith) (edge_here true n D w b q r t h))
      ∙ ap (function true D d (suc q)) (sym (cofactor-here D q b r h)))
      (λ h. half-past true n D w b d q r h ∙ ap (function true D d (suc q)) (sym (cofactor-past D q b r h)))

  -- both cofactors tell the reference
  pub cofactor-injective : (q r s : ℕ) → q < n → T (from true D q r) → T (from true D q s)
      → ((b : Bool) → cofactor (node_at true D) q b r ≡ cofactor (node_at true D) q b s) → r ≡ s
  cofactor-injective q r s h t u f =
      let d = n - suc q in
      let e : q + suc d ≡ n = omega arith in
      let g : (b : Bool) → half b (function true D (suc d) q r) ≡ half b (function true D (suc d) q s) =
      λ b. half-cofactor b d q r e t ∙ ap (function true D d (suc q)) (f b) ∙ sym (half-cofactor b d q s e u) in
      function-injective true n D w (suc d) q r s e t u
      (node-halves (function true D (suc d) q r) ∙ ap₂ node (g false) (g true) ∙ sym (node-halves (function true D (suc d) q s)))
