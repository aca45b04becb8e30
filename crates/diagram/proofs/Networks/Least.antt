-- No diagram that computes the functions ts has fewer nodes than their network.
-- Every segment of a level is what some reference computes, perhaps inverted; so each class of the level is the class of a node that
-- stands there, and two classes never share a node. Summed over the levels, each node is counted once.
-- Assumes nothing.
use mathlib.Core.Path.{◌≡◌, refl, sym, ap, ap₂, ◌∙◌, subst}
use mathlib.Core.Bool.{Bool, true, false, not, cond, ◌&&◌}
use mathlib.Core.List.{List, [], ◌∷◌, map}
use mathlib.Core.Logic.{⊎_elim}
use Prim.Native.Nat.{ℕ, zero, suc, ◌+◌, ◌≤◌, ◌<◌, zero-le, suc-le-suc}
use native.Mathlib.Nat.{le_of_suc-le-suc, not-suc-le-zero, le_trans, le_of_eq, add-le-add, le_refl}
use native.Mathlib.Omega.{arith}
use lib.Dec.{T, eqb, ltb, leb, eqb→eq, leb→le, le→leb, nltb→le, T_not}
use lib.ListN.{length, get_or, length-map}
use Rattle.lists.specs.Lists.{has, keep}
use Rattle.lists.specs.Bits.{flip}
use Rattle.lists.proofs.Bools.{split, of_T, to-T, to-not, absurd-T, and_r, or_r, or_cases}
use Rattle.lists.proofs.Lists.Membership.{pigeonhole, has_here, keep-length}
use Rattle.diagram.specs.Tree.{Tree, node, half, halves, inverted, same}
use Rattle.diagram.specs.Networks.Diagram.{Node, Diagram, edge, target, inverts, node_at}
use Rattle.diagram.specs.Networks.Network.{depends, normal, classes, count}
use Rattle.diagram.proofs.Tree.{same-equality, same→eq, same_refl, half-inverted, inverted-inverted, inverted-false}
use Rattle.diagram.proofs.Tree.{depends-inverted, normal-inverted}
use Rattle.diagram.proofs.Networks.Reference.{target-lt, inverts-inv, from, from-reached}
use Rattle.diagram.proofs.Networks.Classes.{classes-has, classes-distinct}
use Rattle.diagram.proofs.Networks.Count.{total, count-total}
use Rattle.diagram.proofs.Networks.Function.{here, function, Good, node-edge, from_next}

-- a segment of level p is what a reference from p on computes, inverted or not
pub record Reaches (inv : Bool) (D : Diagram) (d p : ℕ) (u : Tree Bool d) : Type 0 where
  pub ref : ℕ
  pub turned : Bool
  pub reached : T (from inv D p ref)
  pub computed : u ≡ inverted (inv && turned) (function inv D d p ref)

-- of every element of a list
abbrev pub Every : {A : Type 0} → (A → Type 0) → List A → Type 0
Every P [] = Unit {0}
Every P (t ∷ ts) = P t × Every P ts

every-has : {d : ℕ} (P : Tree Bool d → Type 0) (ts : List (Tree Bool d)) (t : Tree Bool d) → Every P ts → T (has same t ts) → P t
every-has P [] t e h = absurd h
every-has P (u ∷ us) t e h =
    ⊎_elim (λ s. subst P (sym (same→eq t u s)) e.0) (λ s. every-has P us t e.1 s) (or_cases (same t u) (has same t us) h)

pub every-at : {d : ℕ} (P : Tree Bool d → Type 0) (ts : List (Tree Bool d)) (t₀ : Tree Bool d)
    → ((j : ℕ) → j < length ts → P (get_or ts j t₀)) → Every P ts
every-at P [] t₀ f = tt
every-at P (t ∷ ts) t₀ f = (f 0 (suc-le-suc zero-le), every-at P ts t₀ (λ j h. f (suc j) (suc-le-suc h)))

inverted-and : {d : ℕ} (inv i j : Bool) (t : Tree Bool d)
    → inverted (inv && i) (inverted (inv && j) t) ≡ inverted (inv && flip i j) t
inverted-and false i j t = inverted-false (inverted false t)
inverted-and true false j t = inverted-false (inverted j t)
inverted-and true true false t = ap (inverted true) (inverted-false t)
inverted-and true true true t = inverted-inverted true t ∙ sym (inverted-false t)

-- the function of a node at level p
abbrev pub node_function : Bool → Diagram → (d : ℕ) → ℕ → Node → Tree Bool (suc d)
node_function inv D d p c = node (function inv D d (suc p) c.low) (function inv D d (suc p) c.high)

pub half-node : (inv : Bool) (D : Diagram) (d p : ℕ) (c : Node) (b : Bool)
    → half b (node_function inv D d p c) ≡ function inv D d (suc p) (edge b c)
half-node inv D d p c true = refl
half-node inv D d p c false = refl

pub function-here : (inv : Bool) (D : Diagram) (d p r : ℕ) → here inv D p r ≡ true
    → function inv D (suc d) p r ≡ inverted (inverts inv r) (node_function inv D d p (node_at inv D r))
function-here inv D d p r e = rw e

pub function-past : (inv : Bool) (D : Diagram) (d p r : ℕ) → here inv D p r ≡ false
    → function inv D (suc d) p r ≡ node (function inv D d (suc p) r) (function inv D d (suc p) r)
function-past inv D d p r e = rw e

-- what it means that a reference is to a node at p
pub here-big : (inv : Bool) (D : Diagram) (p r : ℕ) → here inv D p r ≡ true → ltb r 2 ≡ false
here-big inv D p r e =
    split (ltb r 2) (λ z. absurd-T (subst (λ (b : Bool). T (not b && eqb (node_at inv D r).level p)) z (to-T e)) refl) (λ z. z)

pub here-level : (inv : Bool) (D : Diagram) (p r : ℕ) → here inv D p r ≡ true → T (eqb (node_at inv D r).level p)
here-level inv D p r e = and_r (not (ltb r 2)) (eqb (node_at inv D r).level p) (to-T e)

pub half-both : {d : ℕ} (b : Bool) (x : Tree Bool d) → half b (node x x) ≡ x
half-both true x = refl
half-both false x = refl

-- a half of what is computed is computed from the next level on
reaches-half : (inv : Bool) (n : ℕ) (D : Diagram) (good : Good inv n D) (d p : ℕ) (b : Bool) (u : Tree Bool (suc d))
    → Reaches inv D (suc d) p u → Reaches inv D d (suc p) (half b u)
reaches-half inv n D good d p b u w =
    split (here inv D p w.ref)
    (λ e. let r = w.ref in
    let c = node_at inv D r in
    let i = inv && w.turned in
    record {
      ref = edge b c;
      turned = flip w.turned (inverts inv r);
      reached =
          subst (λ (l : ℕ). T (from inv D (suc l) (edge b c))) (eqb→eq c.level p (here-level inv D p r e))
          (node-edge inv n D good p r w.reached (here-big inv D p r e) b);
      computed =
          ap (half b) w.computed ∙ half-inverted b i (function inv D (suc d) p r)
          ∙ ap (λ x. inverted i (half b x)) (function-here inv D d p r e)
          ∙ ap (inverted i) (half-inverted b (inverts inv r) (node_function inv D d p c)
          ∙ ap₂ inverted (inverts-inv inv r) (half-node inv D d p c b))
          ∙ inverted-and inv w.turned (inverts inv r) (function inv D d (suc p) (edge b c));
    })
    (λ e. record {
      ref = w.ref;
      turned = w.turned;
      reached = from_next inv n D good p w.ref w.reached e;
      computed =
          ap (half b) w.computed ∙ half-inverted b (inv && w.turned) (function inv D (suc d) p w.ref)
          ∙ ap (λ x. inverted (inv && w.turned) (half b x)) (function-past inv D d p w.ref e)
          ∙ ap (inverted (inv && w.turned)) (half-both b (function inv D d (suc p) w.ref));
    })

reaches-halves : (inv : Bool) (n : ℕ) (D : Diagram) (good : Good inv n D) (d p : ℕ) (ts : List (Tree Bool (suc d)))
    → Every (Reaches inv D (suc d) p) ts → Every (Reaches inv D d (suc p)) (halves ts)
reaches-halves inv n D good d p [] e = tt
reaches-halves inv n D good d p (t ∷ ts) e =
    (reaches-half inv n D good d p false t e.0, (reaches-half inv n D good d p true t e.0, reaches-halves inv n D good d p ts e.1))

-- the classes of the nodes that stand at level p
abbrev standing : Bool → Diagram → (d : ℕ) → ℕ → List (Tree Bool (suc d))
standing inv D d p = map (λ c. normal inv (node_function inv D d p c)) (keep (λ c. eqb c.level p) D.nodes)

has-standing : {d : ℕ} (f : Node → Tree Bool d) (q : Node → Bool) (cs : List Node) (i : ℕ) (e : Node) → i < length cs
    → T (q (get_or cs i e)) → T (has same (f (get_or cs i e)) (map f (keep q cs)))
has-standing f q [] i e h t = absurd (not-suc-le-zero h)
has-standing f q (c ∷ cs) zero e h t = let z : q c ≡ true = of_T t in rw z (has_here same same-equality (f c) (map f (keep q cs)))
has-standing f q (c ∷ cs) (suc i) e h t =
    let rest = has-standing f q cs i e (le_of_suc-le-suc h) t in
    split (q c) (λ z. rw z (or_r (same (f (get_or cs i e)) (f c)) (has same (f (get_or cs i e)) (map f (keep q cs))) rest)) (λ z. rw z rest)

depends-both : {d : ℕ} (i : Bool) (x : Tree Bool d) → T (depends (inverted i (node x x))) → ⊥
depends-both i x t =
    let e : depends (inverted i (node x x)) ≡ not (same x x) = depends-inverted i (node x x) in
    T_not (same x x) (subst T e t) (same_refl x)

-- a segment that depends on level p's variable is computed at a node that stands there
class-standing : (inv : Bool) (D : Diagram) (d p : ℕ) (u : Tree Bool (suc d)) → Reaches inv D (suc d) p u → T (depends u)
    → T (has same (normal inv u) (standing inv D d p))
class-standing inv D d p u w t =
    split (here inv D p w.ref)
    (λ e. let r = w.ref in
    let c = node_at inv D r in
    let big = here-big inv D p r e in
    let g = node_function inv D d p c in
    let same_class : normal inv g ≡ normal inv u =
    sym (ap (normal inv) (w.computed ∙ ap (inverted (inv && w.turned))
    (function-here inv D d p r e ∙ ap (λ i. inverted i g) (inverts-inv inv r)))
    ∙ normal-inverted inv w.turned (inverted (inv && inverts inv r) g) ∙ normal-inverted inv (inverts inv r) g) in
    subst (λ x. T (has same x (standing inv D d p))) same_class
    (has-standing (λ c. normal inv (node_function inv D d p c)) (λ c. eqb c.level p) D.nodes (target inv r)
    (record { level = 0; low = 0; high = 0 })
    (target-lt inv r (length D.nodes) (nltb→le r 2 (to-not big)) (from-reached inv D p r w.reached big).own)
    (here-level inv D p r e)))
    (λ e. absurd (depends-both (inv && w.turned) (function inv D d (suc p) w.ref)
    (subst (λ x. T (depends x)) (w.computed ∙ ap (inverted (inv && w.turned)) (function-past inv D d p w.ref e)) t)))

-- a level's classes are no more than the nodes that stand there
classes-standing : (inv : Bool) (D : Diagram) (d p : ℕ) (ts : List (Tree Bool (suc d))) → Every (Reaches inv D (suc d) p) ts
    → length (classes inv ts) ≤ length (keep (λ c. eqb c.level p) D.nodes)
classes-standing inv D d p ts every =
    le_trans
    (pigeonhole same same-equality (classes inv ts) (standing inv D d p) (classes-distinct inv ts)
    (λ x h. let u = classes-has inv ts x h in
    subst (λ y. T (has same y (standing inv D d p))) u.3
    (class-standing inv D d p u.0 (every-has (Reaches inv D (suc d) p) ts u.0 every u.1) u.2)))
    (le_of_eq (length-map (keep (λ c. eqb c.level p) D.nodes) (λ c. normal inv (node_function inv D d p c))))

-- the nodes at p and those past it are among those from p on
levels-split : (p : ℕ) (cs : List Node)
    → length (keep (λ c. eqb c.level p) cs) + length (keep (λ c. leb (suc p) c.level) cs) ≤ length (keep (λ c. leb p c.level) cs)
levels-split p [] = zero-le
levels-split p (c ∷ cs) =
    split (eqb c.level p)
    (λ e. let q : c.level ≡ p = eqb→eq c.level p (to-T e) in
    let a : leb p c.level ≡ true = of_T (le→leb p c.level (omega arith)) in
    let b : leb (suc p) c.level ≡ false = split (leb (suc p) c.level) (λ z. let h = leb→le (suc p) c.level (to-T z) in
    absurd (omega arith)) (λ z. z) in
    rw (e, a, b) (omega (arith, levels-split p cs)))
    (λ e. split (leb (suc p) c.level)
    (λ b. let h = leb→le (suc p) c.level (to-T b) in
    let a : leb p c.level ≡ true = of_T (le→leb p c.level (omega arith)) in
    rw (e, a, b) (omega (arith, levels-split p cs)))
    (λ b. rw (e, b) (le_trans (levels-split p cs) (grow (leb p c.level)))))
  where
    grow : (t : Bool)
        → length (keep (λ c. leb p c.level) cs) ≤ length (cond t (c ∷ keep (λ c. leb p c.level) cs) (keep (λ c. leb p c.level) cs))
    grow true = omega arith
    grow false = le_refl (length (keep (λ c. leb p c.level) cs))

-- summed over the levels from p on
total-standing : (inv : Bool) (n : ℕ) (D : Diagram) (good : Good inv n D) (d p : ℕ) (ts : List (Tree Bool d))
    → Every (Reaches inv D d p) ts → total inv d ts ≤ length (keep (λ c. leb p c.level) D.nodes)
total-standing inv n D good zero p ts every = zero-le
total-standing inv n D good (suc d) p ts every =
    le_trans
    (add-le-add (classes-standing inv D d p ts every)
    (total-standing inv n D good d (suc p) (halves ts) (reaches-halves inv n D good d p ts every)))
    (levels-split p D.nodes)

-- least: where each of ts is computed by a reference, the diagram has at least as many nodes as their network
pub least-trees : (inv : Bool) (n : ℕ) (D : Diagram) → Good inv n D → (ts : List (Tree Bool n)) → Every (Reaches inv D n 0) ts
    → count inv n ts ≤ length D.nodes
least-trees inv n D good ts every =
    le_trans (le_of_eq (count-total inv n ts))
    (le_trans (total-standing inv n D good n 0 ts every) (keep-length (λ c. leb 0 c.level) D.nodes))
