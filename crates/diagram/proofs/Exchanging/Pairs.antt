-- References to inverses, and pairs of references: when two are of one class.
-- Assumes nothing.
use mathlib.Core.Path.{◌≡◌, refl, sym, ap, ◌∙◌, subst}
use mathlib.Core.Bool.{Bool, true, false, not, cond, ◌||◌}
use mathlib.Core.Logic.{⊎_elim}
use Prim.Native.Nat.{ℕ, suc, ◌+◌, ◌*◌, ◌-◌, ◌/◌, ◌%◌}
use native.Mathlib.Omega.{arith}
use lib.Dec.{T, eqb, ltb, leb, eqb→eq, eqb_refl, leb→le, le→leb}
use lib.ListN.{length, get_or}
use Rattle.lists.specs.Bits.{flip}
use Rattle.lists.proofs.Bools.{split, to-T, and_T, and_l, and_r, or_l, or_r, or_cases, flip-self, both_ways}
use Rattle.lists.proofs.Lists.Membership.{Equality}
use Rattle.lists.proofs.Numbers.Compared.{differ}
use Rattle.diagram.specs.Networks.Diagram.{Diagram, inverts, node_at, refers, opposite}
use Rattle.diagram.specs.Exchanging.Exchange.{Pair, same_pair, opposite_pair, normal_pair, same_class}

-- references: those that invert are the odd ones

inverts-odd : (r : ℕ) → inverts true r ≡ true → r % 2 ≡ 1
inverts-odd r e = eqb→eq (r % 2) 1 (to-T e)

inverts-even : (r : ℕ) → inverts true r ≡ false → r % 2 ≡ 0
inverts-even r e = let q = differ (r % 2) 1 e in omega arith

odd-inverts : (r : ℕ) → r % 2 ≡ 1 → inverts true r ≡ true
odd-inverts r e = ap (λ (k : ℕ). eqb k 1) e

even-inverts : (r : ℕ) → r % 2 ≡ 0 → inverts true r ≡ false
even-inverts r e = ap (λ (k : ℕ). eqb k 1) e

opposite-odd : (r : ℕ) → inverts true r ≡ true → opposite true r ≡ r - 1
opposite-odd r e = ap (λ (b : Bool). cond b (r - 1) (suc r)) e

opposite-even : (r : ℕ) → inverts true r ≡ false → opposite true r ≡ suc r
opposite-even r e = ap (λ (b : Bool). cond b (r - 1) (suc r)) e

pub inverts-opposite : (r : ℕ) → inverts true (opposite true r) ≡ not (inverts true r)
inverts-opposite r =
    split (inverts true r)
    (λ e. let q = inverts-odd r e in
    ap (inverts true) (opposite-odd r e) ∙ even-inverts (r - 1) (omega arith) ∙ ap not (sym e))
    (λ e. let q = inverts-even r e in
    ap (inverts true) (opposite-even r e) ∙ odd-inverts (suc r) (omega arith) ∙ ap not (sym e))

opposite-opposite : (r : ℕ) → opposite true (opposite true r) ≡ r
opposite-opposite r =
    split (inverts true r)
    (λ e. let q = inverts-odd r e in
    opposite-even (opposite true r) (inverts-opposite r ∙ ap not e) ∙ ap (λ (k : ℕ). suc k) (opposite-odd r e) ∙ omega arith)
    (λ e. opposite-odd (opposite true r) (inverts-opposite r ∙ ap not e) ∙ ap (λ (k : ℕ). k - 1) (opposite-even r e) ∙ omega arith)

-- both are to one node, or to a constant
opposite-half : (r : ℕ) → opposite true r / 2 ≡ r / 2
opposite-half r =
    split (inverts true r)
    (λ e. let q = inverts-odd r e in ap (λ (k : ℕ). k / 2) (opposite-odd r e) ∙ omega arith)
    (λ e. let q = inverts-even r e in ap (λ (k : ℕ). k / 2) (opposite-even r e) ∙ omega arith)

below-odd : (r k : ℕ) → leb r (2 * k + 1) ≡ leb (r / 2) k
below-odd r k =
    both_ways (leb r (2 * k + 1)) (leb (r / 2) k) (λ t. let h = leb→le r (2 * k + 1) t in le→leb (r / 2) k (omega arith))
    (λ t. let h = leb→le (r / 2) k t in le→leb r (2 * k + 1) (omega arith))

opposite-below : (r k : ℕ) → leb (opposite true r) (2 * k + 1) ≡ leb r (2 * k + 1)
opposite-below r k = below-odd (opposite true r) k ∙ ap (λ (x : ℕ). leb x k) (opposite-half r) ∙ sym (below-odd r k)

pub opposite-small : (r : ℕ) → ltb (opposite true r) 2 ≡ ltb r 2
opposite-small r =
    both_ways (ltb (opposite true r) 2) (ltb r 2)
    (λ t. let h = leb→le (suc (opposite true r)) 2 t in le→leb (suc r) 2 (omega (arith, opposite-half r)))
    (λ t. let h = leb→le (suc r) 2 t in le→leb (suc (opposite true r)) 2 (omega (arith, opposite-half r)))

module _ (D : Diagram) where
  pub opposite-node : (r : ℕ) → node_at true D (opposite true r) ≡ node_at true D r
  opposite-node r = ap (λ (k : ℕ). get_or D.nodes (k - 1) (record { level = 0; low = 0; high = 0 })) (opposite-half r)

  pub opposite-refers : (r : ℕ) → refers true D (opposite true r) ≡ refers true D r
  opposite-refers r = opposite-below r (length D.nodes)

pub opposite-not : (i : Bool) (r : ℕ) → opposite (not i) r ≡ opposite true (opposite i r)
opposite-not true r = sym (opposite-opposite r)
opposite-not false r = refl

-- pairs

pub pair-equal : (f g : Pair) → f.low ≡ g.low → f.high ≡ g.high → f ≡ g
pair-equal f g l h = λ i. record { low = l i; high = h i }

pair-sound : (f g : Pair) → T (same_pair f g) → f ≡ g
pair-sound f g t =
    let a = eqb f.low g.low in
    let b = eqb f.high g.high in
    pair-equal f g (eqb→eq f.low g.low (and_l a b t)) (eqb→eq f.high g.high (and_r a b t))

pair-self : (f : Pair) → T (same_pair f f)
pair-self f = and_T (eqb f.low f.low) (eqb f.high f.high) (eqb_refl f.low) (eqb_refl f.high)

pub pair-equality : Equality same_pair
pair-equality = record { sound = pair-sound; self = pair-self }

eq-pair : {f g : Pair} → f ≡ g → T (same_pair f g)
eq-pair {f} e = subst (λ (g : Pair). T (same_pair f g)) e (pair-self f)

pair-opposite : (f : Pair) → opposite_pair true (opposite_pair true f) ≡ f
pair-opposite f = pair-equal _ f (opposite-opposite f.low) (opposite-opposite f.high)

pair-back : (i : Bool) (f : Pair) → f ≡ opposite_pair i (opposite_pair i f)
pair-back true f = sym (pair-opposite f)
pair-back false f = refl

-- a pair and its inverse have one normal member
normal-opposite : (f : Pair) → normal_pair (opposite_pair true f) ≡ normal_pair f
normal-opposite f =
    ap (λ (i : Bool). opposite_pair i (opposite_pair true f)) (inverts-opposite f.low) ∙ turn (inverts true f.low)
  where
    turn : (i : Bool) → opposite_pair (not i) (opposite_pair true f) ≡ opposite_pair i f
    turn true = refl
    turn false = pair-opposite f

-- two members of one class are equal or inverse
either : (x f g : Pair) (i j : Bool) → f ≡ opposite_pair i x → g ≡ opposite_pair j x
    → T (same_pair f g || same_pair (opposite_pair true f) g)
either x f g true true e q = or_l (same_pair f g) (same_pair (opposite_pair true f) g) (eq-pair (e ∙ sym q))
either x f g false false e q = or_l (same_pair f g) (same_pair (opposite_pair true f) g) (eq-pair (e ∙ sym q))
either x f g true false e q =
    or_r (same_pair f g) (same_pair (opposite_pair true f) g) (eq-pair (ap (opposite_pair true) e ∙ pair-opposite x ∙ sym q))
either x f g false true e q =
    or_r (same_pair f g) (same_pair (opposite_pair true f) g) (eq-pair (ap (opposite_pair true) e ∙ sym q))

pub class-either : (f g : Pair) → same_class f g ≡ same_pair f g || same_pair (opposite_pair true f) g
class-either f g =
    both_ways (same_class f g) (same_pair f g || same_pair (opposite_pair true f) g)
    (λ t. let i = inverts true f.low in
    let j = inverts true g.low in
    either (normal_pair f) f g i j (pair-back i f)
    (pair-back j g ∙ ap (opposite_pair j) (sym (pair-sound (normal_pair f) (normal_pair g) t))))
    (λ t. ⊎_elim (λ s. eq-pair (ap normal_pair (pair-sound f g s)))
    (λ s. eq-pair (sym (normal-opposite f) ∙ ap normal_pair (pair-sound (opposite_pair true f) g s)))
    (or_cases (same_pair f g) (same_pair (opposite_pair true f) g) t))

-- whether one inverts relative to the other

flip-other : (i : Bool) → flip (not i) i ≡ true
flip-other true = refl
flip-other false = refl

pub relative-same : (f g : Pair) → same_pair f g ≡ true → flip (inverts true g.low) (inverts true f.low) ≡ false
relative-same f g e =
    ap (λ (x : Pair). flip (inverts true x.low) (inverts true f.low)) (sym (pair-sound f g (to-T e)))
    ∙ flip-self (inverts true f.low)

pub relative-opposite : (f g : Pair) → same_pair (opposite_pair true f) g ≡ true
    → flip (inverts true g.low) (inverts true f.low) ≡ true
relative-opposite f g e =
    ap (λ (x : Pair). flip (inverts true x.low) (inverts true f.low)) (sym (pair-sound (opposite_pair true f) g (to-T e)))
    ∙ ap (λ (b : Bool). flip b (inverts true f.low)) (inverts-opposite f.low)
    ∙ flip-other (inverts true f.low)
