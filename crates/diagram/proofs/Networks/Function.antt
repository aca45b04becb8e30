-- What a reference of any well-formed diagram computes, as a tree: seen from level p, with d levels left.
-- The law `function-gives` ties it to what a row gives at the reference.
-- Assumes nothing.
use mathlib.Core.Path.{◌≡◌, refl, sym, ap, ◌∙◌, subst}
use mathlib.Core.Bool.{Bool, true, false, not, cond, ◌&&◌}
use mathlib.Core.List.{List}
use Prim.Native.Nat.{ℕ, zero, suc, ◌+◌, ◌≤◌, ◌<◌}
use native.Mathlib.Nat.{le_refl, le_of_suc-le-suc, not-suc-le-zero, le_of_lt, le_antisymm}
use native.Mathlib.Omega.{arith}
use lib.Dec.{T, eqb, ltb, eqb→eq, eqb_refl, ltb→lt, nltb→le}
use lib.ListN.{length}
use Rattle.lists.specs.Lists.{all}
use Rattle.lists.specs.Bits.{flip}
use Rattle.lists.proofs.Bools.{split, to-T, to-not, absurd-T, and_l, and_r}
use Rattle.lists.proofs.Lists.Membership.{all-at}
use Rattle.diagram.specs.Tree.{Tree, leaf, node, half, at, inverted}
use Rattle.diagram.specs.Networks.Diagram.{Node, Diagram, edge, target, inverts, node_at, later, node_good, gives}
use Rattle.diagram.specs.Networks.Network.{refer}
use Rattle.diagram.proofs.Tree.{at-inverted, tree-ext, cond_same}
use Rattle.diagram.proofs.Networks.Known.{Known}
use Rattle.diagram.proofs.Networks.Reference.{target-lt, from, from-node, from-reached, from-constant}
use Rattle.diagram.proofs.Networks.Right.{Holds, gives-node, at-half, gives-refer, from-refer}

-- whether the reference is to a node at level p
abbrev pub here : Bool → Diagram → ℕ → ℕ → Bool
here inv D p r = not (ltb r 2) && eqb (node_at inv D r).level p

-- where it is, its two edges' functions, inverted where the reference inverts; else the same on both halves
abbrev pub function : Bool → Diagram → (d : ℕ) → ℕ → ℕ → Tree Bool d
function inv D zero p r = leaf (eqb r 1)
function inv D (suc d) p r =
    cond (here inv D p r)
    (inverted (inverts inv r) (node (function inv D d (suc p) (node_at inv D r).low) (function inv D d (suc p) (node_at inv D r).high)))
    (node (function inv D d (suc p) r) (function inv D d (suc p) r))

-- a diagram whose nodes are all good for n levels
abbrev pub Good : Bool → ℕ → Diagram → Type 0
Good inv n D = T (all (node_good inv n D) D.nodes)

module _ (inv : Bool) (n : ℕ) (D : Diagram) (good : Good inv n D) where
  node-good : (p r : ℕ) → T (from inv D p r) → ltb r 2 ≡ false → T (node_good inv n D (node_at inv D r))
  node-good p r t e =
      all-at (node_good inv n D) D.nodes good (target inv r) (record { level = 0; low = 0; high = 0 })
      (target-lt inv r (length D.nodes) (nltb→le r 2 (to-not e)) (from-reached inv D p r t e).own)

  pub node-level : (p r : ℕ) → T (from inv D p r) → ltb r 2 ≡ false → (node_at inv D r).level < n
  node-level p r t e =
      let c = node_at inv D r in
      ltb→lt c.level n (and_l (ltb c.level n) (later inv D c.level c.low && later inv D c.level c.high)
      (node-good p r t e))

  pub node-edge : (p r : ℕ) → T (from inv D p r) → ltb r 2 ≡ false → (b : Bool)
      → T (from inv D (suc (node_at inv D r).level) (edge b (node_at inv D r)))
  node-edge p r t e b =
      let c = node_at inv D r in
      step b (and_r (ltb c.level n) (later inv D c.level c.low && later inv D c.level c.high) (node-good p r t e))
    where
      step : (b : Bool)
          → T (later inv D (node_at inv D r).level (node_at inv D r).low && later inv D (node_at inv D r).level (node_at inv D r).high)
          → T (later inv D (node_at inv D r).level (edge b (node_at inv D r)))
      step true s =
          and_r (later inv D (node_at inv D r).level (node_at inv D r).low) (later inv D (node_at inv D r).level (node_at inv D r).high) s
      step false s =
          and_l (later inv D (node_at inv D r).level (node_at inv D r).low) (later inv D (node_at inv D r).level (node_at inv D r).high) s

  -- from the last level on there are only constants
  pub constant-last : (r : ℕ) → T (from inv D n r) → ltb r 2 ≡ true
  constant-last r t =
      split (ltb r 2) (λ e. e) (λ e. absurd (lt-absurd (node-level n r t e) (from-reached inv D n r t e).deep))
    where
      lt-absurd : (node_at inv D r).level < n → n ≤ (node_at inv D r).level → ⊥
      lt-absurd h k = omega arith

  -- a reference that is not to a node at p is from the next level on
  pub from_next : (p r : ℕ) → T (from inv D p r) → here inv D p r ≡ false → T (from inv D (suc p) r)
  from_next p r t e =
      split (ltb r 2) (from-constant inv D (suc p) r)
      (λ q. let w = from-reached inv D p r t q in
      let z : eqb (node_at inv D r).level p ≡ false = rw q at e in
      from-node inv D (suc p) r w.own (above w.deep z))
    where
      above : p ≤ (node_at inv D r).level → eqb (node_at inv D r).level p ≡ false → p < (node_at inv D r).level
      above h z = split (ltb p (node_at inv D r).level) (λ q. ltb→lt p (node_at inv D r).level (to-T q))
          (λ q. let k = nltb→le p (node_at inv D r).level (to-not q) in
          let s : (node_at inv D r).level ≡ p = le_antisymm k h in
          absurd-T (subst (λ (x : ℕ). T (eqb (node_at inv D r).level x)) s (eqb_refl (node_at inv D r).level)) z)

pub gives-constant : (inv : Bool) (D : Diagram) (a : ℕ → Bool) (k r : ℕ) → ltb r 2 ≡ true → gives inv D a k r ≡ eqb r 1
unfolding gives
gives-constant inv D a zero r e = refl
gives-constant inv D a (suc k) r e = rw e

half-function : (inv : Bool) (D : Diagram) (d p : ℕ) (c : Node) (b : Bool)
    → half b (node (function inv D d p c.low) (function inv D d p c.high)) ≡ function inv D d p (edge b c)
half-function inv D d p c true = refl
half-function inv D d p c false = refl

-- what the node at level p gives, by its edge
at_here : (inv : Bool) (D : Diagram) (a : ℕ → Bool) (d p r : ℕ) → here inv D p r ≡ true
    → at p a (function inv D (suc d) p r) ≡ flip (inverts inv r) (at (suc p) a (function inv D d (suc p) (edge (a p) (node_at inv D r))))
at_here inv D a d p r e =
    let c = node_at inv D r in
    rw e
    (at-inverted p a (inverts inv r) (node (function inv D d (suc p) c.low) (function inv D d (suc p) c.high))
    ∙ ap (flip (inverts inv r)) (at-half p a (node (function inv D d (suc p) c.low) (function inv D d (suc p) c.high))
    ∙ ap (at (suc p) a) (half-function inv D d (suc p) c (a p))))

at-past : (inv : Bool) (D : Diagram) (a : ℕ → Bool) (d p r : ℕ) → here inv D p r ≡ false
    → at p a (function inv D (suc d) p r) ≡ at (suc p) a (function inv D d (suc p) r)
at-past inv D a d p r e = rw e (cond_same (a p) (at (suc p) a (function inv D d (suc p) r)))

-- a row gives at a reference what the reference's function has there, in any number of steps that the levels left allow
pub function-gives : (inv : Bool) (n : ℕ) (D : Diagram) (good : Good inv n D) (a : ℕ → Bool) (d p r k : ℕ) → p + d ≡ n → d ≤ k
    → T (from inv D p r) → gives inv D a k r ≡ at p a (function inv D d p r)
function-gives inv n D good a zero p r k e h t =
    gives-constant inv D a k r (constant-last inv n D good r (subst (λ (q : ℕ). T (from inv D q r)) (omega arith) t))
function-gives inv n D good a (suc d) p r zero e h t = absurd (not-suc-le-zero h)
function-gives inv n D good a (suc d) p r (suc k) e h t =
    split (here inv D p r)
    (λ q. let c = node_at inv D r in
    let big : ltb r 2 ≡ false = split (ltb r 2) (λ z. absurd-T (subst (λ (b : Bool). T (not b && eqb c.level p)) z (to-T q)) refl)
    (λ z. z) in
    let lev : c.level ≡ p = eqb→eq c.level p (and_r (not (ltb r 2)) (eqb c.level p) (to-T q)) in
    let down : gives inv D a k (edge (a p) c) ≡ at (suc p) a (function inv D d (suc p) (edge (a p) c)) =
    function-gives inv n D good a d (suc p) (edge (a p) c) k (omega arith) (le_of_suc-le-suc h)
    (subst (λ (l : ℕ). T (from inv D (suc l) (edge (a p) c))) lev (node-edge inv n D good p r t big (a p))) in
    gives-node inv D a k r c (nltb→le r 2 (to-not big)) refl
    ∙ ap (λ (l : ℕ). flip (inverts inv r) (gives inv D a k (edge (a l) c))) lev
    ∙ ap (flip (inverts inv r)) down
    ∙ sym (at_here inv D a d p r q))
    (λ q. function-gives inv n D good a d (suc p) r (suc k) (omega arith) (le_of_lt h) (from_next inv n D good p r t q)
    ∙ sym (at-past inv D a d p r q))

-- what the reference to a known function computes is the function
pub function-refer : (inv : Bool) (n : ℕ) (D : Diagram) → Good inv n D → (d p base : ℕ) (ts : List (Tree Bool d)) (t : Tree Bool d)
    → p + d ≡ n → Holds inv D d p base ts → Known inv ts t → function inv D d p (refer inv d base ts t) ≡ t
function-refer inv n D good d p base ts t e h k =
    let r = refer inv d base ts t in
    tree-ext p (function inv D d p r) t
    (λ a. sym (function-gives inv n D good a d p r d e (le_refl d) (from-refer inv D d p base ts t h k))
    ∙ gives-refer inv D a d p base ts t h k d (le_refl d))
