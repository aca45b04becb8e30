-- The network is right: it computes the functions it is made of, it is well-formed, and its low edges don't invert.
-- The nodes of the levels from p on stand in the diagram behind `base` others, so references by number find them.
-- Assumes nothing.
use mathlib.Core.Path.{◌≡◌, refl, sym, ap, ap₂, ◌∙◌, subst}
use mathlib.Core.Bool.{Bool, true, false, not, cond, ◌&&◌}
use mathlib.Core.List.{List, [], ◌++◌, map, append_assoc}
use Prim.Native.Nat.{ℕ, zero, suc, ◌+◌, ◌*◌, ◌≤◌, ◌<◌}
use native.Mathlib.Nat.{le_refl, le_of_suc-le-suc, not-suc-le-zero, le_of_lt, le_step}
use native.Mathlib.Omega.{arith}
use lib.Dec.{T, eqb, ltb, leb, le→leb, lt→ltb, ltb→lt, eqb_refl}
use lib.ListN.{length, get_or, length-append, length-map, get_or-append}
use lib.Seq.{get_or-append-add}
use Rattle.lists.specs.Lists.{has, all, index}
use Rattle.lists.specs.Bits.{flip, digit}
use Rattle.lists.proofs.Bools.{split, to-T, to-not, and_T, flip-flip}
use Rattle.lists.proofs.Lists.Membership.{index-lt, get_or-index, all_map, all_append, has_get_d, get_d_map}
use Rattle.diagram.specs.Tree.{Tree, leaf, node, half, at, halves, first, same}
use Rattle.diagram.specs.Networks.Diagram.{Node, Diagram, edge, inverts, largest, node_at, refers, later, node_good, well_formed, gives}
use Rattle.diagram.specs.Networks.Network.{depends, normal, classes, reference, refer, node_of, nodes, network}
use Rattle.diagram.proofs.Tree.{same-equality, half-inverted, first-half, at-inverted, first-normal}
use Rattle.diagram.proofs.Networks.Classes.{classes-normal}
use Rattle.diagram.proofs.Networks.Known.{Known, known_of, known-normal, known-half, known-class, class-known, refer-depends, refer-skips}
use Rattle.diagram.proofs.Networks.Known.{refer-leaf, refer-inverts, half-equal}
use Rattle.diagram.proofs.Networks.Reference.{target-reference, inverts-reference, reference-big, reference-largest, not-below, from}
use Rattle.diagram.proofs.Networks.Reference.{from-node, from-reached, from-sooner}

-- the diagram's nodes are `base` others and then those of the levels from p on
pub record Holds (inv : Bool) (D : Diagram) (d p base : ℕ) (ts : List (Tree Bool d)) : Type 0 where
  pub before : List Node
  pub split_at : D.nodes ≡ before ++ nodes inv d p base ts
  pub depth : length before ≡ base

pub holds-below : (inv : Bool) (D : Diagram) (d p base : ℕ) (ts : List (Tree Bool (suc d))) → Holds inv D (suc d) p base ts
    → Holds inv D d (suc p) (base + length (classes inv ts)) (halves ts)
unfolding nodes
holds-below inv D d p base ts w =
    let own = map (node_of inv p (base + length (classes inv ts)) (halves ts)) (classes inv ts) in
    record {
      before = w.before ++ own;
      split_at = w.split_at ∙ sym (append_assoc w.before own (nodes inv d (suc p) (base + length (classes inv ts)) (halves ts)));
      depth =
          length-append w.before own ∙ ap₂ ◌+◌ w.depth
          (length-map (classes inv ts) (node_of inv p (base + length (classes inv ts)) (halves ts)));
    }

-- a class's node, found by its index
module _ (inv : Bool) (D : Diagram) (d p base : ℕ) (ts : List (Tree Bool (suc d))) (w : Holds inv D (suc d) p base ts)
    (x : Tree Bool (suc d)) (h : T (has same x (classes inv ts))) (e : Node) where
  pub class-index : base + index same x (classes inv ts) < length D.nodes
  unfolding nodes
  class-index =
      let b = base + length (classes inv ts) in
      let own = map (node_of inv p b (halves ts)) (classes inv ts) in
      let i : index same x (classes inv ts) < length (classes inv ts) = index-lt same same-equality x (classes inv ts) h in
      let l : length D.nodes ≡ length w.before + length (own ++ nodes inv d (suc p) b (halves ts)) =
      ap length w.split_at ∙ length-append w.before (own ++ nodes inv d (suc p) b (halves ts)) in
      omega (
        arith,
        l,
        i,
        w.depth,
        length-append own (nodes inv d (suc p) b (halves ts)),
        length-map (classes inv ts) (node_of inv p b (halves ts)),
      )

  pub class-node : get_or D.nodes (base + index same x (classes inv ts)) e ≡ node_of inv p (base + length (classes inv ts)) (halves ts) x
  unfolding nodes
  class-node =
      let b = base + length (classes inv ts) in
      let f : Tree Bool (suc d) → Node = node_of inv p b (halves ts) in
      let i : index same x (classes inv ts) < length (classes inv ts) = index-lt same same-equality x (classes inv ts) h in
      ap₂ (λ (l : List Node) (k : ℕ). get_or l (k + index same x (classes inv ts)) e) w.split_at (sym w.depth)
      ∙ get_or-append-add w.before (map f (classes inv ts) ++ nodes inv d (suc p) b (halves ts)) (index same x (classes inv ts)) e
      ∙ get_or-append (map f (classes inv ts)) (nodes inv d (suc p) b (halves ts)) e (index same x (classes inv ts)) (rw length-map i)
      ∙ get_d_map f (classes inv ts) (index same x (classes inv ts)) x e i
      ∙ ap f (get_or-index same same-equality x (classes inv ts) x h)

edge-node_of : {d : ℕ} (inv b : Bool) (p base : ℕ) (ts : List (Tree Bool d)) (t : Tree Bool (suc d))
    → edge b (node_of inv p base ts t) ≡ refer inv d base ts (half b t)
edge-node_of inv true p base ts t = refl
edge-node_of inv false p base ts t = refl

-- what a row gives at constants and at a node

pub gives-digit : (inv : Bool) (D : Diagram) (a : ℕ → Bool) (k : ℕ) (b : Bool) → gives inv D a k (digit b) ≡ b
unfolding gives
gives-digit inv D a zero true = refl
gives-digit inv D a zero false = refl
gives-digit inv D a (suc k) true = refl
gives-digit inv D a (suc k) false = refl

pub gives-node : (inv : Bool) (D : Diagram) (a : ℕ → Bool) (k r : ℕ) (c : Node) → 2 ≤ r → node_at inv D r ≡ c
    → gives inv D a (suc k) r ≡ flip (inverts inv r) (gives inv D a k (edge (a c.level) c))
unfolding gives
gives-node inv D a k r c h e = rw (not-below r 2 h, e)

pub at-half : {d : ℕ} (p : ℕ) (a : ℕ → Bool) (t : Tree Bool (suc d)) → at p a t ≡ at (suc p) a (half (a p) t)
at-half p a (node l h) = step (a p)
  where
    step : (c : Bool) → cond c (at (suc p) a h) (at (suc p) a l) ≡ at (suc p) a (half c (node l h))
    step true = refl
    step false = refl

-- a row's value at a function, from its value at the half of the normal member
at_back : {d : ℕ} (inv : Bool) (p : ℕ) (a : ℕ → Bool) (t : Tree Bool (suc d))
    → flip (inv && first t) (at (suc p) a (half (a p) (normal inv t))) ≡ at p a t
at_back inv p a t =
    ap (λ x. flip (inv && first t) (at (suc p) a x)) (half-inverted (a p) (inv && first t) t)
    ∙ ap (flip (inv && first t)) (at-inverted (suc p) a (inv && first t) (half (a p) t))
    ∙ flip-flip (inv && first t) (at (suc p) a (half (a p) t)) ∙ sym (at-half p a t)

-- one step down, at a function that depends on its top variable
gives-class : (inv : Bool) (D : Diagram) (a : ℕ → Bool) (d p base : ℕ) (ts : List (Tree Bool (suc d))) (t : Tree Bool (suc d))
    → Holds inv D (suc d) p base ts → Known inv ts t → (k : ℕ) → depends t ≡ true
    → gives inv D a k (refer inv d (base + length (classes inv ts)) (halves ts) (half (a p) (normal inv t))) ≡ at (suc p) a
    (half (a p) (normal inv t))
    → gives inv D a (suc k) (refer inv (suc d) base ts t) ≡ at p a t
gives-class inv D a d p base ts t w q k e below =
    let j = base + index same (normal inv t) (classes inv ts) in
    let r = reference inv j (first t) in
    let c = node_of inv p (base + length (classes inv ts)) (halves ts) (normal inv t) in
    let found : node_at inv D r ≡ c =
    ap (λ (k : ℕ). get_or D.nodes k (record { level = 0; low = 0; high = 0 })) (target-reference inv j (first t))
    ∙ class-node inv D d p base ts w (normal inv t) (known-class inv ts t q e) (record { level = 0; low = 0; high = 0 }) in
    ap (gives inv D a (suc k)) (refer-depends inv base ts t e)
    ∙ gives-node inv D a k r c (reference-big inv j (first t)) found
    ∙ ap₂ (λ (i : Bool) (s : ℕ). flip i (gives inv D a k s)) (inverts-reference inv j (first t))
    (edge-node_of inv (a p) p (base + length (classes inv ts)) (halves ts) (normal inv t))
    ∙ ap (flip (inv && first t)) below
    ∙ at_back inv p a t

-- at the reference to a known function a row gives what the function has there
pub gives-refer : (inv : Bool) (D : Diagram) (a : ℕ → Bool) (d p base : ℕ) (ts : List (Tree Bool d)) (t : Tree Bool d)
    → Holds inv D d p base ts → Known inv ts t → (k : ℕ) → d ≤ k → gives inv D a k (refer inv d base ts t) ≡ at p a t
gives-refer inv D a zero p base ts (leaf b) w q k h = ap (gives inv D a k) (refer-leaf inv base ts (leaf b)) ∙ gives-digit inv D a k b
gives-refer inv D a (suc d) p base ts t w q zero h = absurd (not-suc-le-zero h)
gives-refer inv D a (suc d) p base ts t w q (suc k) h =
    let rest : (u : Tree Bool d) → Known inv (halves ts) u → (l : ℕ) → d ≤ l
    → gives inv D a l (refer inv d (base + length (classes inv ts)) (halves ts) u) ≡ at (suc p) a u =
    λ u. gives-refer inv D a d (suc p) (base + length (classes inv ts)) (halves ts) u (holds-below inv D d p base ts w) in
    split (depends t)
    (λ e. gives-class inv D a d p base ts t w q k e
    (rest (half (a p) (normal inv t)) (known-half inv (a p) ts (normal inv t) (known-normal inv ts t q)) k (le_of_suc-le-suc h)))
    (λ e. ap (gives inv D a (suc k)) (refer-skips inv base ts t e)
    ∙ rest (half false t) (known-half inv false ts t q) (suc k) (le_of_lt h)
    ∙ ap (at (suc p) a) (sym (half-equal (a p) t e)) ∙ sym (at-half p a t))

-- the reference to a known function is to a constant or to a node of level p or later
pub from-refer : (inv : Bool) (D : Diagram) (d p base : ℕ) (ts : List (Tree Bool d)) (t : Tree Bool d) → Holds inv D d p base ts
    → Known inv ts t → T (from inv D p (refer inv d base ts t))
from-refer inv D zero p base ts (leaf true) w q = rw (refer-leaf inv base ts (leaf true)) tt
from-refer inv D zero p base ts (leaf false) w q = rw (refer-leaf inv base ts (leaf false)) tt
from-refer inv D (suc d) p base ts t w q =
    split (depends t)
    (λ e. let j = base + index same (normal inv t) (classes inv ts) in
    let k = known-class inv ts t q e in
    let found : node_at inv D (reference inv j (first t)) ≡ node_of inv p (base + length (classes inv ts)) (halves ts) (normal inv t) =
    ap (λ (k : ℕ). get_or D.nodes k (record { level = 0; low = 0; high = 0 })) (target-reference inv j (first t))
    ∙ class-node inv D d p base ts w (normal inv t) k (record { level = 0; low = 0; high = 0 }) in
    subst (λ (r : ℕ). T (from inv D p r)) (sym (refer-depends inv base ts t e))
    (from-node inv D p (reference inv j (first t))
    (reference-largest inv j (first t) (length D.nodes)
    (class-index inv D d p base ts w (normal inv t) k (record { level = 0; low = 0; high = 0 })))
    (omega (arith, ap (λ (c : Node). c.level) found))))
    (λ e. subst (λ (r : ℕ). T (from inv D p r)) (sym (refer-skips inv base ts t e))
    (from-sooner inv D p (suc p) (refer inv d (base + length (classes inv ts)) (halves ts) (half false t)) (le_step (le_refl p))
    (from-refer inv D d (suc p) (base + length (classes inv ts)) (halves ts) (half false t) (holds-below inv D d p base ts w)
    (known-half inv false ts t q))))

-- every node is good: its level is below n and its edges go to later levels or constants
pub nodes-good : (inv : Bool) (D : Diagram) (n d p base : ℕ) (ts : List (Tree Bool d)) → Holds inv D d p base ts → p + d ≡ n
    → T (all (node_good inv n D) (nodes inv d p base ts))
unfolding nodes
nodes-good inv D n zero p base ts w e = tt
nodes-good inv D n (suc d) p base ts w e =
    let b = base + length (classes inv ts) in
    let below = holds-below inv D d p base ts w in
    let good : (x : Tree Bool (suc d)) → T (has same x (classes inv ts)) → T (node_good inv n D (node_of inv p b (halves ts) x)) =
    λ x h. let known : (c : Bool) → T (from inv D (suc p) (refer inv d b (halves ts) (half c x))) =
    λ c. from-refer inv D d (suc p) b (halves ts) (half c x) below
    (known-half inv c ts x (class-known inv ts x h)) in
    let f = refer inv d b (halves ts) (half false x) in
    let g = refer inv d b (halves ts) (half true x) in
    and_T (ltb p n) (later inv D p f && later inv D p g) (lt→ltb p n (omega arith))
    (and_T (later inv D p f) (later inv D p g) (known false) (known true)) in
    all_append (node_good inv n D) (map (node_of inv p b (halves ts)) (classes inv ts)) (nodes inv d (suc p) b (halves ts))
    (all_map same same-equality (node_good inv n D) (node_of inv p b (halves ts)) (classes inv ts) good)
    (nodes-good inv D n d (suc p) b (halves ts) below (omega arith))

-- a reference from a level on is the diagram's own, or a constant
pub from-refers : (inv : Bool) (D : Diagram) (p r : ℕ) → T (from inv D p r) → T (refers inv D r)
from-refers inv D p r t =
    split (ltb r 2) (λ e. small inv (ltb→lt r 2 (to-T e))) (λ e. (from-reached inv D p r t e).own)
  where
    small : (i : Bool) → r < 2 → T (leb r (largest i (length D.nodes)))
    small true h = le→leb r (2 * length D.nodes + 1) (omega arith)
    small false h = le→leb r (length D.nodes + 1) (omega arith)

-- the network as a whole

pub network-holds : (inv : Bool) (n : ℕ) (ts : List (Tree Bool n)) → Holds inv (network inv n ts) n 0 0 ts
unfolding network
network-holds inv n ts = record { before = []; split_at = refl; depth = refl }

pub network-formed : (inv : Bool) (n : ℕ) (ts : List (Tree Bool n)) → T (well_formed inv n (length ts) (network inv n ts))
unfolding network well_formed
network-formed inv n ts =
    let D = network inv n ts in
    let w = network-holds inv n ts in
    and_T (eqb (length D.roots) (length ts)) (all (refers inv D) D.roots && all (node_good inv n D) D.nodes)
    (subst (λ (k : ℕ). T (eqb k (length ts))) (sym (length-map ts (refer inv n 0 ts))) (eqb_refl (length ts)))
    (and_T (all (refers inv D) D.roots) (all (node_good inv n D) D.nodes)
    (all_map same same-equality (refers inv D) (refer inv n 0 ts) ts
    (λ t h. from-refers inv D 0 (refer inv n 0 ts t) (from-refer inv D n 0 0 ts t w (known_of inv ts t h))))
    (nodes-good inv D n n 0 0 ts w (omega arith)))

pub network-gives : (inv : Bool) (n : ℕ) (ts : List (Tree Bool n)) (a : ℕ → Bool) (j : ℕ) (t₀ : Tree Bool n) → j < length ts
    → gives inv (network inv n ts) a n (get_or (network inv n ts).roots j 0) ≡ at 0 a (get_or ts j t₀)
unfolding network
network-gives inv n ts a j t₀ h =
    ap (gives inv (network inv n ts) a n) (get_d_map (refer inv n 0 ts) ts j t₀ 0 h)
    ∙ gives-refer inv (network inv n ts) a n 0 0 ts (get_or ts j t₀) (network-holds inv n ts)
    (known_of inv ts (get_or ts j t₀) (has_get_d same same-equality ts j t₀ h)) n (le_refl n)

-- the low edge of a class's node doesn't invert
pub class-even : (inv : Bool) (d base : ℕ) (ts : List (Tree Bool (suc d))) (x : Tree Bool (suc d)) → T (has same x (classes inv ts))
    → inverts inv (refer inv d base (halves ts) (half false x)) ≡ false
class-even inv d base ts x h =
    refer-inverts inv d base (halves ts) (half false x) ∙ ap (λ b. inv && b) (first-half x) ∙ even inv (classes-normal inv ts x h)
  where
    even : (i : Bool) → normal i x ≡ x → (i && first x) ≡ false
    even true e = ap first (sym e) ∙ first-normal x
    even false e = refl

-- 'Its function is the member whose all-zero row is 0, so its 0-arrow is even'
pub low-even : (d p base : ℕ) (ts : List (Tree Bool d)) → T (all (λ c. not (inverts true c.low)) (nodes true d p base ts))
unfolding nodes
low-even zero p base ts = tt
low-even (suc d) p base ts =
    let b = base + length (classes true ts) in
    all_append (λ c. not (inverts true c.low)) (map (node_of true p b (halves ts)) (classes true ts)) (nodes true d (suc p) b (halves ts))
    (all_map same same-equality (λ c. not (inverts true c.low)) (node_of true p b (halves ts)) (classes true ts)
    (λ x h. to-not (class-even true d b ts x h)))
    (low-even d (suc p) b (halves ts))
