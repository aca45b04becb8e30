-- Section 4's network is reduced: no low edge inverts, the edges of a node differ, and no node stands twice.
-- Assumes nothing.
use mathlib.Core.Path.{◌≡◌, sym, ap, ap₂, ◌∙◌}
use mathlib.Core.Bool.{Bool, true, false, not}
use mathlib.Core.List.{List, map}
use Prim.Native.Nat.{ℕ, zero, suc, ◌+◌, ◌≤◌}
use native.Mathlib.Nat.{le_refl, le_of_lt}
use native.Mathlib.Omega.{arith}
use lib.Dec.{T, eqb, eqb→eq, leb, leb→le, le→leb}
use lib.ListN.{length}
use Rattle.lists.specs.Lists.{all, has, distinct}
use Rattle.lists.proofs.Bools.{split, of_T, to-T, to-not, absurd-T, and_T}
use Rattle.lists.proofs.Lists.Membership.{all-has, has_all, all_append, all_map, map-has}
use Rattle.lists.proofs.Lists.Distinct.{distinct-map, distinct_append}
use Rattle.diagram.specs.Tree.{Tree, node, half, halves, same}
use Rattle.diagram.specs.Networks.Diagram.{Node, Diagram, inverts, gives, same_node}
use Rattle.diagram.specs.Networks.Network.{classes, refer, node_of, nodes, network}
use Rattle.diagram.specs.Canonical.Structure.{node_reduced}
use Rattle.diagram.proofs.Networks.Same.{node-equality}
use Rattle.diagram.proofs.Tree.{same-equality, eq→same, node-halves, tree-ext}
use Rattle.diagram.proofs.Networks.Classes.{classes-depend, classes-distinct}
use Rattle.diagram.proofs.Networks.Known.{Known, known-half, class-known}
use Rattle.diagram.proofs.Networks.Right.{Holds, holds-below, gives-refer, network-holds, network-formed, class-even}
use Rattle.diagram.proofs.Networks.Evaluate.{formed-nodes}
use Rattle.diagram.proofs.Canonical.Reduced.{Reduced}

-- different functions have different references: what every row gives there tells the function
pub refer-injective : (inv : Bool) (D : Diagram) (d p base : ℕ) (ts : List (Tree Bool d)) → Holds inv D d p base ts
    → (s t : Tree Bool d) → Known inv ts s → Known inv ts t → refer inv d base ts s ≡ refer inv d base ts t → s ≡ t
refer-injective inv D d p base ts w s t k l e =
    tree-ext p s t
    (λ a. sym (gives-refer inv D a d p base ts s w k d (le_refl d)) ∙ ap (gives inv D a d) e
    ∙ gives-refer inv D a d p base ts t w l d (le_refl d))

-- a class of level p and its node
module _ (inv : Bool) (D : Diagram) (d p base : ℕ) (ts : List (Tree Bool (suc d)))
    (w : Holds inv D d (suc p) base (halves ts)) where
  -- halves with one reference are equal
  half-injective : (b c : Bool) (x y : Tree Bool (suc d)) → T (has same x (classes inv ts)) → T (has same y (classes inv ts))
      → refer inv d base (halves ts) (half b x) ≡ refer inv d base (halves ts) (half c y) → half b x ≡ half c y
  half-injective b c x y h k e =
      refer-injective inv D d (suc p) base (halves ts) w (half b x) (half c y) (known-half inv b ts x (class-known inv ts x h))
      (known-half inv c ts y (class-known inv ts y k)) e

  class-reduced : (x : Tree Bool (suc d)) → T (has same x (classes inv ts)) → T (node_reduced inv (node_of inv p base (halves ts) x))
  class-reduced x h =
      let l = refer inv d base (halves ts) (half false x) in
      let r = refer inv d base (halves ts) (half true x) in
      let differ : eqb l r ≡ false =
      split (eqb l r)
      (λ e. absurd-T (classes-depend inv ts x h)
      (ap not (of-same (half-injective false true x x h h (eqb→eq l r (to-T e))))))
      (λ e. e) in
      and_T (not (inverts inv l)) (not (eqb l r)) (to-not (class-even inv d base ts x h)) (to-not differ)
    where
      of-same : half false x ≡ half true x → same (half false x) (half true x) ≡ true
      of-same e = of_T (eq→same e)

  node-injective : (x y : Tree Bool (suc d)) → T (has same x (classes inv ts)) → T (has same y (classes inv ts))
      → node_of inv p base (halves ts) x ≡ node_of inv p base (halves ts) y → x ≡ y
  node-injective x y h k e =
      node-halves x
      ∙ ap₂ node (half-injective false false x y h k (ap (λ (c : Node). c.low) e))
      (half-injective true true x y h k (ap (λ (c : Node). c.high) e))
      ∙ sym (node-halves y)

nodes-reduced : (inv : Bool) (D : Diagram) (d p base : ℕ) (ts : List (Tree Bool d)) → Holds inv D d p base ts
    → T (all (node_reduced inv) (nodes inv d p base ts))
unfolding nodes
nodes-reduced inv D zero p base ts w = tt
nodes-reduced inv D (suc d) p base ts w =
    let b = base + length (classes inv ts) in
    let below = holds-below inv D d p base ts w in
    all_append (node_reduced inv) (map (node_of inv p b (halves ts)) (classes inv ts)) (nodes inv d (suc p) b (halves ts))
    (all_map same same-equality (node_reduced inv) (node_of inv p b (halves ts)) (classes inv ts) (class-reduced inv D d p b ts below))
    (nodes-reduced inv D d (suc p) b (halves ts) below)

-- the nodes from level p on stand at p or later
abbrev since : ℕ → Node → Bool
since p c = leb p c.level

nodes-since : (inv : Bool) (d p base : ℕ) (ts : List (Tree Bool d)) → T (all (since p) (nodes inv d p base ts))
unfolding nodes
nodes-since inv zero p base ts = tt
nodes-since inv (suc d) p base ts =
    let b = base + length (classes inv ts) in
    let rest = nodes inv d (suc p) b (halves ts) in
    all_append (since p) (map (node_of inv p b (halves ts)) (classes inv ts)) rest
    (all_map same same-equality (since p) (node_of inv p b (halves ts)) (classes inv ts) (λ x h. le→leb p p (le_refl p)))
    (has_all same_node node-equality (since p) rest
    (λ c h. le→leb p c.level (le_of_lt (leb→le (suc p) c.level
    (all-has same_node node-equality (since (suc p)) rest (nodes-since inv d (suc p) b (halves ts)) c h)))))

-- those of different levels differ by level, those of one level by their edges
nodes-apart : (inv : Bool) (D : Diagram) (d p base : ℕ) (ts : List (Tree Bool d)) → Holds inv D d p base ts
    → T (distinct same_node (nodes inv d p base ts))
unfolding nodes
nodes-apart inv D zero p base ts w = tt
nodes-apart inv D (suc d) p base ts w =
    let b = base + length (classes inv ts) in
    let below = holds-below inv D d p base ts w in
    let f : Tree Bool (suc d) → Node = node_of inv p b (halves ts) in
    let rest = nodes inv d (suc p) b (halves ts) in
    distinct_append same_node node-equality (map f (classes inv ts)) rest
    (distinct-map same same-equality same_node node-equality f (classes inv ts) (classes-distinct inv ts)
    (node-injective inv D d p b ts below))
    (nodes-apart inv D d (suc p) b (halves ts) below)
    (λ c h. split (has same_node c rest)
    (λ e. let x = map-has same same-equality same_node node-equality f c (classes inv ts) h in
    let at_p : p ≡ c.level = ap (λ (c : Node). c.level) x.2 in
    let past : suc p ≤ c.level =
    leb→le (suc p) c.level
    (all-has same_node node-equality (since (suc p)) rest (nodes-since inv d (suc p) b (halves ts)) c (to-T e)) in
    absurd (omega arith))
    (λ e. e))

pub network-reduced : (inv : Bool) (n : ℕ) (ts : List (Tree Bool n)) → Reduced inv n (network inv n ts)
unfolding network
network-reduced inv n ts =
    let D = network inv n ts in
    let w = network-holds inv n ts in
    record {
      good = formed-nodes inv n (length ts) D (network-formed inv n ts);
      each = nodes-reduced inv D n 0 0 ts w;
      apart = nodes-apart inv D n 0 0 ts w;
    }
