-- In a diagram whose nodes are reduced, two references are equal exactly when what they compute is equal.
-- A node is reduced where its low edge doesn't invert and its edges differ; and no node stands twice.
-- Assumes nothing.
use mathlib.Core.Path.{◌≡◌, refl, sym, ap, ap₂, ◌∙◌, subst}
use mathlib.Core.Bool.{Bool, true, false, not, ◌&&◌, and-false}
use Prim.Native.Nat.{ℕ, zero, suc, ◌+◌, ◌<◌}
use native.Mathlib.Nat.{add-zero}
use native.Mathlib.Omega.{arith}
use lib.Dec.{T, eqb, ltb, eqb→eq, nltb→le}
use lib.ListN.{length, get_or}
use Rattle.lists.specs.Lists.{all, distinct}
use Rattle.lists.specs.Bits.{flip, digit}
use Rattle.lists.proofs.Bools.{split, of-not, to-T, to-not, absurd-T, and_l, and_r}
use Rattle.lists.proofs.Lists.Membership.{all-at, get_or-apart}
use Rattle.lists.proofs.Numbers.Compared.{differ}
use Rattle.diagram.specs.Tree.{Tree, node, half, full, first, same, inverted}
use Rattle.diagram.specs.Networks.Diagram.{Node, Diagram, edge, target, inverts, node_at, same_node}
use Rattle.diagram.specs.Networks.Network.{depends, normal, reference}
use Rattle.diagram.specs.Canonical.Structure.{node_reduced}
use Rattle.diagram.proofs.Networks.Same.{node-equal, node-equality}
use Rattle.diagram.proofs.Tree.{same→eq, half-inverted, inverted-inverted, inverted-false, first-inverted, first-half}
use Rattle.diagram.proofs.Tree.{varies, same_self, varies-full}
use Rattle.diagram.proofs.Networks.Reference.{from, from-reached, from-constant, target-lt, target-reference, inverts-reference, inverts-inv}
use Rattle.diagram.proofs.Networks.Reference.{reference-big, reference-target, not-below}
use Rattle.diagram.proofs.Networks.Function.{here, function, Good, node-edge, from_next, constant-last}
use Rattle.diagram.proofs.Networks.Least.{node_function, half-node, function-here, function-past, here-big, here-level, half-both}
use Rattle.diagram.proofs.Tracing.FirstSeen.{steady}

-- what number 32 asks of the nodes, each by itself and one beside the other
pub record Reduced (inv : Bool) (n : ℕ) (D : Diagram) : Type 0 where
  pub good : Good inv n D
  pub each : T (all (node_reduced inv) D.nodes)
  pub apart : T (distinct same_node D.nodes)

-- the function of the node with index k, seen from level p with d levels left
abbrev pub function_of : Bool → Diagram → (d : ℕ) → ℕ → ℕ → Tree Bool d
function_of inv D d p k = function inv D d p (reference inv k false)

-- constants

constant-inverts : (inv : Bool) (r : ℕ) → ltb r 2 ≡ true → (inv && eqb r 1) ≡ inverts inv r
constant-inverts false r e = refl
constant-inverts true zero e = refl
constant-inverts true (suc zero) e = refl
constant-inverts true (suc (suc r)) e = absurd-T (to-T e) (not-below (suc (suc r)) 2 (omega arith))

pub constant-digit : (r : ℕ) → ltb r 2 ≡ true → r ≡ digit (eqb r 1)
constant-digit zero e = refl
constant-digit (suc zero) e = refl
constant-digit (suc (suc r)) e = absurd-T (to-T e) (not-below (suc (suc r)) 2 (omega arith))

constant-equal : (r s : ℕ) → ltb r 2 ≡ true → ltb s 2 ≡ true → eqb r 1 ≡ eqb s 1 → r ≡ s
constant-equal r s e f q = constant-digit r e ∙ ap digit q ∙ sym (constant-digit s f)

constant-function : (inv : Bool) (D : Diagram) (d p r : ℕ) → ltb r 2 ≡ true → function inv D d p r ≡ full (eqb r 1) d
constant-function inv D zero p r e = refl
constant-function inv D (suc d) p r e =
    let below = constant-function inv D d (suc p) r e in
    rw e (ap₂ node below below)

pub digit-constant : (v : Bool) → (ltb (digit v) 2 ≡ true) × (eqb (digit v) 1 ≡ v)
digit-constant true = (refl, refl)
digit-constant false = (refl, refl)

inverted-equal : {d : ℕ} (i j : Bool) (s t : Tree Bool d) → i ≡ j → inverted i s ≡ inverted j t → s ≡ t
inverted-equal i j s t e q =
    sym (inverted-inverted i s) ∙ ap (inverted i) q ∙ ap (λ k. inverted k (inverted j t)) e ∙ inverted-inverted j t

first_edge : (inv i x : Bool) → i ≡ (inv && i) → (inv && x) ≡ false → (inv && flip i x) ≡ i
first_edge false i x e q = sym e
first_edge true true x e q = ap not q
first_edge true false x e q = q

-- the reference to a node by its index

pub node-plain : (inv : Bool) (k : ℕ) → inverts inv (reference inv k false) ≡ false
node-plain inv k = inverts-reference inv k false ∙ and-false inv

pub node-target : (inv : Bool) (D : Diagram) (r : ℕ) → node_at inv D (reference inv (target inv r) false) ≡ node_at inv D r
node-target inv D r =
    ap (λ (k : ℕ). get_or D.nodes k (record { level = 0; low = 0; high = 0 })) (target-reference inv (target inv r) false)

pub here-target : (inv : Bool) (D : Diagram) (p r : ℕ) → ltb r 2 ≡ false
    → here inv D p (reference inv (target inv r) false) ≡ here inv D p r
here-target inv D p r b =
    ap₂ (λ (x : Bool) (c : Node). not x && eqb c.level p)
    (not-below (reference inv (target inv r) false) 2 (reference-big inv (target inv r) false) ∙ sym b) (node-target inv D r)

module _ (inv : Bool) (n : ℕ) (D : Diagram) (w : Reduced inv n D) where
  target-own : (p r : ℕ) → T (from inv D p r) → ltb r 2 ≡ false → target inv r < length D.nodes
  target-own p r t e = target-lt inv r (length D.nodes) (nltb→le r 2 (to-not e)) (from-reached inv D p r t e).own

  node-reduced : (p r : ℕ) → T (from inv D p r) → ltb r 2 ≡ false → T (node_reduced inv (node_at inv D r))
  node-reduced p r t e =
      all-at (node_reduced inv) D.nodes w.each (target inv r) (record { level = 0; low = 0; high = 0 }) (target-own p r t e)

  low-plain : (p r : ℕ) → T (from inv D p r) → ltb r 2 ≡ false → inverts inv (node_at inv D r).low ≡ false
  low-plain p r t e =
      let c = node_at inv D r in
      of-not (and_l (not (inverts inv c.low)) (not (eqb c.low c.high)) (node-reduced p r t e))

  edges-differ : (p r : ℕ) → T (from inv D p r) → ltb r 2 ≡ false → eqb (node_at inv D r).low (node_at inv D r).high ≡ false
  edges-differ p r t e =
      let c = node_at inv D r in
      of-not (and_r (not (inverts inv c.low)) (not (eqb c.low c.high)) (node-reduced p r t e))

  -- the edges of a node at level p are from the next level on
  pub edge_here : (b : Bool) (p r : ℕ) → T (from inv D p r) → here inv D p r ≡ true → T (from inv D (suc p) (edge b (node_at inv D r)))
  edge_here b p r t e =
      let c = node_at inv D r in
      subst (λ (l : ℕ). T (from inv D (suc l) (edge b c))) (eqb→eq c.level p (here-level inv D p r e))
      (node-edge inv n D w.good p r t (here-big inv D p r e) b)

  pub last : (p r : ℕ) → p + 0 ≡ n → T (from inv D p r) → ltb r 2 ≡ true
  last p r e t = constant-last inv n D w.good r (subst (λ (q : ℕ). T (from inv D q r)) (sym (add-zero p) ∙ e) t)

  -- the halves of a node's function are its edges', inverted where the reference inverts
  pub half-here : (b : Bool) (d p r : ℕ) → here inv D p r ≡ true
      → half b (function inv D (suc d) p r) ≡ inverted (inverts inv r) (function inv D d (suc p) (edge b (node_at inv D r)))
  half-here b d p r e =
      let c = node_at inv D r in
      ap (half b) (function-here inv D d p r e) ∙ half-inverted b (inverts inv r) (node_function inv D d p c)
      ∙ ap (inverted (inverts inv r)) (half-node inv D d p c b)

  -- any other reference's halves are its function a level down
  pub half-past : (b : Bool) (d p r : ℕ) → here inv D p r ≡ false → half b (function inv D (suc d) p r) ≡ function inv D d (suc p) r
  half-past b d p r e = ap (half b) (function-past inv D d p r e) ∙ half-both b (function inv D d (suc p) r)

  -- a reference inverts exactly where the all-zero row of its function is 1
  pub first_function : (d p r : ℕ) → p + d ≡ n → T (from inv D p r) → (inv && first (function inv D d p r)) ≡ inverts inv r
  first_function zero p r e t = constant-inverts inv r (last p r e t)
  first_function (suc d) p r e t =
      ap (λ b. inv && b) (sym (first-half (function inv D (suc d) p r)))
      ∙ split (here inv D p r)
      (λ h. let c = node_at inv D r in
      let low = function inv D d (suc p) c.low in
      ap (λ x. inv && first x) (half-here false d p r h) ∙ ap (λ b. inv && b) (first-inverted (inverts inv r) low)
      ∙ first_edge inv (inverts inv r) (first low) (inverts-inv inv r)
      (first_function d (suc p) c.low (omega arith) (edge_here false p r t h) ∙ low-plain p r t (here-big inv D p r h)))
      (λ h. ap (λ x. inv && first x) (half-past false d p r h)
      ∙ first_function d (suc p) r (omega arith) (from_next inv n D w.good p r t h))

  -- where functions a level down tell references apart, a node's two halves differ
  halves-differ : (d p r : ℕ)
      → ((s t : ℕ) → T (from inv D (suc p) s) → T (from inv D (suc p) t) → function inv D d (suc p) s ≡ function inv D d (suc p) t → s ≡ t)
      → T (from inv D p r) → here inv D p r ≡ true
      → half false (function inv D (suc d) p r) ≡ half true (function inv D (suc d) p r) → ⊥
  halves-differ d p r f t h q =
      let c = node_at inv D r in
      differ c.low c.high (edges-differ p r t (here-big inv D p r h))
      (f c.low c.high (edge_here false p r t h) (edge_here true p r t h)
      (inverted-equal (inverts inv r) (inverts inv r) (function inv D d (suc p) c.low) (function inv D d (suc p) c.high) refl
      (sym (half-here false d p r h) ∙ q ∙ half-here true d p r h)))

  -- a half of both is equal where one isn't here
  halves-equal : (d p r s : ℕ) → here inv D p s ≡ false → function inv D (suc d) p r ≡ function inv D (suc d) p s
      → half false (function inv D (suc d) p r) ≡ half true (function inv D (suc d) p r)
  halves-equal d p r s h q =
      ap (half false) q ∙ half-past false d p s h ∙ sym (half-past true d p s h) ∙ sym (ap (half true) q)

  -- two references to nodes at level p whose edges are equal and that both invert, or both don't, are equal
  here-equal : (p r s : ℕ) → T (from inv D p r) → T (from inv D p s) → here inv D p r ≡ true → here inv D p s ≡ true
      → inverts inv r ≡ inverts inv s → ((b : Bool) → edge b (node_at inv D r) ≡ edge b (node_at inv D s)) → r ≡ s
  here-equal p r s t u h k i f =
      let big = here-big inv D p r h in
      let also = here-big inv D p s k in
      let c = node_at inv D r in
      let g = node_at inv D s in
      let l : c.level ≡ g.level =
      eqb→eq c.level p (here-level inv D p r h) ∙ sym (eqb→eq g.level p (here-level inv D p s k)) in
      let j : target inv r ≡ target inv s =
      get_or-apart same_node node-equality D.nodes (target inv r) (target inv s) (record { level = 0; low = 0; high = 0 }) w.apart
      (target-own p r t big) (target-own p s u also) (node-equal c g l (f false) (f true)) in
      sym (reference-target inv r (nltb→le r 2 (to-not big))) ∙ ap₂ (reference inv) j i
      ∙ reference-target inv s (nltb→le s 2 (to-not also))

  -- equal functions, equal references
  pub function-injective : (d p r s : ℕ) → p + d ≡ n → T (from inv D p r) → T (from inv D p s)
      → function inv D d p r ≡ function inv D d p s → r ≡ s
  function-injective zero p r s e t u q = constant-equal r s (last p r e t) (last p s e u) (ap first q)
  function-injective (suc d) p r s e t u q =
      let below : (x y : ℕ) → T (from inv D (suc p) x) → T (from inv D (suc p) y)
      → function inv D d (suc p) x ≡ function inv D d (suc p) y → x ≡ y =
      λ x y. function-injective d (suc p) x y (omega arith) in
      split (here inv D p r)
      (λ h. split (here inv D p s)
      (λ k. let i : inverts inv r ≡ inverts inv s =
      sym (first_function (suc d) p r e t) ∙ ap (λ x. inv && first x) q ∙ first_function (suc d) p s e u in
      here-equal p r s t u h k i
      (λ b. below (edge b (node_at inv D r)) (edge b (node_at inv D s)) (edge_here b p r t h) (edge_here b p s u k)
      (inverted-equal (inverts inv r) (inverts inv s) (function inv D d (suc p) (edge b (node_at inv D r)))
      (function inv D d (suc p) (edge b (node_at inv D s))) i
      (sym (half-here b d p r h) ∙ ap (half b) q ∙ half-here b d p s k))))
      (λ k. absurd (halves-differ d p r below t h (halves-equal d p r s k q))))
      (λ h. split (here inv D p s)
      (λ k. absurd (halves-differ d p s below u k (halves-equal d p s r h (sym q))))
      (λ k. below r s (from_next inv n D w.good p r t h) (from_next inv n D w.good p s u k)
      (sym (half-past false d p r h) ∙ ap (half false) q ∙ half-past false d p s k)))

  -- a function depends on its top variable where its node stands there
  pub depends-here : (d p r : ℕ) → p + suc d ≡ n → T (from inv D p r) → depends (function inv D (suc d) p r) ≡ here inv D p r
  depends-here d p r e t =
      let f = function inv D (suc d) p r in
      split (here inv D p r)
      (λ h. split (same (half false f) (half true f))
      (λ q. absurd (halves-differ d p r (λ x y. function-injective d (suc p) x y (omega arith)) t h
      (same→eq (half false f) (half true f) (to-T q))))
      (λ q. ap not q ∙ sym h))
      (λ h. ap₂ (λ x y. not (same x y)) (half-past false d p r h) (half-past true d p r h)
      ∙ ap not (same_self (function inv D d (suc p) r)) ∙ sym h)

  -- only constants don't vary
  pub varies-function : (d p r : ℕ) → p + d ≡ n → T (from inv D p r) → varies (function inv D d p r) ≡ not (ltb r 2)
  varies-function d p r e t =
      split (ltb r 2)
      (λ c. ap varies (constant-function inv D d p r c) ∙ varies-full (eqb r 1) d ∙ sym (ap not c))
      (λ c. split (varies (function inv D d p r)) (λ v. v ∙ sym (ap not c))
      (λ v. let b = first (function inv D d p r) in
      let k = digit-constant b in
      let q : r ≡ digit b =
      function-injective d p r (digit b) e t (from-constant inv D p (digit b) k.0)
      (steady (function inv D d p r) v ∙ ap (λ x. full x d) (sym k.1) ∙ sym (constant-function inv D d p (digit b) k.0)) in
      absurd-T (to-T (ap (λ (x : ℕ). ltb x 2) q ∙ k.0)) c))

  -- a reference's function is its node's, inverted where it inverts
  function-target : (d p r : ℕ) → p + d ≡ n → T (from inv D p r) → ltb r 2 ≡ false
      → function inv D d p r ≡ inverted (inverts inv r) (function_of inv D d p (target inv r))
  function-target zero p r e t b = absurd-T (to-T (last p r e t)) b
  function-target (suc d) p r e t b =
      let k = target inv r in
      let s = reference inv k false in
      let i = inverts inv r in
      split (here inv D p r)
      (λ h. function-here inv D d p r h
      ∙ ap (inverted i) (sym (inverted-false (node_function inv D d p (node_at inv D r)))
      ∙ ap₂ (λ (j : Bool) (c : Node). inverted j (node_function inv D d p c)) (sym (node-plain inv k)) (sym (node-target inv D r))
      ∙ sym (function-here inv D d p s (here-target inv D p r b ∙ h))))
      (λ h. let below = function-target d (suc p) r (omega arith) (from_next inv n D w.good p r t h) b in
      function-past inv D d p r h ∙ ap₂ node below below ∙ ap (inverted i) (sym (function-past inv D d p s (here-target inv D p r b ∙ h))))

  -- the normal member of a function's class is its node's
  pub normal-function : (d p r : ℕ) → p + d ≡ n → T (from inv D p r) → ltb r 2 ≡ false
      → normal inv (function inv D d p r) ≡ function_of inv D d p (target inv r)
  normal-function d p r e t b =
      ap₂ inverted (first_function d p r e t) (function-target d p r e t b)
      ∙ inverted-inverted (inverts inv r) (function_of inv D d p (target inv r))
