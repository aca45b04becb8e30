-- References as numbers: which node one is to, whether it inverts, and that it's no constant.
-- Assumes nothing.
use mathlib.Core.Path.{◌≡◌, refl}
use mathlib.Core.Bool.{Bool, true, false, ◌&&◌, ◌||◌}
use Prim.Native.Nat.{ℕ, suc, ◌+◌, ◌*◌, ◌%◌, ◌≤◌, ◌<◌}
use native.Mathlib.Omega.{arith}
use lib.Dec.{T, eqb, ltb, leb, eqb→eq, leb→le, le→leb, ltb→lt}
use Rattle.lists.proofs.Bools.{split, to-T, and_T, and_l, and_r, or_r}
use Rattle.lists.proofs.Numbers.Compared.{differ}
use Rattle.diagram.specs.Networks.Diagram.{Diagram, target, inverts, largest, node_at, refers}
use Rattle.diagram.specs.Networks.Network.{reference}

pub not-below : (m n : ℕ) → n ≤ m → ltb m n ≡ false
not-below m n h = split (ltb m n) (λ e. let k = ltb→lt m n (to-T e) in absurd (omega arith)) (λ e. e)

pub target-reference : (inv : Bool) (k : ℕ) (i : Bool) → target inv (reference inv k i) ≡ k
target-reference true k true = omega arith
target-reference true k false = omega arith
target-reference false k i = omega arith

pub inverts-reference : (inv : Bool) (k : ℕ) (i : Bool) → inverts inv (reference inv k i) ≡ inv && i
inverts-reference true k true = let e : (2 * suc k + 1) % 2 ≡ 1 = omega arith in rw e
inverts-reference true k false = let e : (2 * suc k + 0) % 2 ≡ 0 = omega arith in rw e
inverts-reference false k i = refl

pub inverts-inv : (inv : Bool) (r : ℕ) → inverts inv r ≡ inv && inverts inv r
inverts-inv true r = refl
inverts-inv false r = refl

-- a reference above 1 by its node and whether it inverts
pub reference-target : (inv : Bool) (r : ℕ) → 2 ≤ r → reference inv (target inv r) (inverts inv r) ≡ r
reference-target false r h = omega arith
reference-target true r h =
    split (eqb (r % 2) 1)
    (λ e. let q = eqb→eq (r % 2) 1 (to-T e) in rw e (omega arith))
    (λ e. let q = differ (r % 2) 1 e in rw e (omega arith))

pub reference-big : (inv : Bool) (k : ℕ) (i : Bool) → 2 ≤ reference inv k i
reference-big true k true = omega arith
reference-big true k false = omega arith
reference-big false k i = omega arith

pub reference-largest : (inv : Bool) (k : ℕ) (i : Bool) (l : ℕ) → k < l → T (leb (reference inv k i) (largest inv l))
reference-largest true k true l h = le→leb (2 * suc k + 1) (2 * l + 1) (omega arith)
reference-largest true k false l h = le→leb (2 * suc k + 0) (2 * l + 1) (omega arith)
reference-largest false k i l h = le→leb (suc (suc k)) (l + 1) (omega arith)

pub target-lt : (inv : Bool) (r l : ℕ) → 2 ≤ r → T (leb r (largest inv l)) → target inv r < l
target-lt true r l g t = let h = leb→le r (2 * l + 1) t in omega arith
target-lt false r l g t = let h = leb→le r (l + 1) t in omega arith

-- a constant, or one of the diagram's nodes at level p or later; 'an arrow to a later place' than p is this from suc p
abbrev pub from : Bool → Diagram → ℕ → ℕ → Bool
from inv D p r = ltb r 2 || (refers inv D r && leb p (node_at inv D r).level)

pub from-node : (inv : Bool) (D : Diagram) (p r : ℕ) → T (refers inv D r) → p ≤ (node_at inv D r).level → T (from inv D p r)
from-node inv D p r s h =
    or_r (ltb r 2) (refers inv D r && leb p (node_at inv D r).level)
    (and_T (refers inv D r) (leb p (node_at inv D r).level) s (le→leb p (node_at inv D r).level h))

-- what a reference from p on is, if no constant
pub record Reached (inv : Bool) (D : Diagram) (p r : ℕ) : Type 0 where
  pub own : T (refers inv D r)
  pub deep : p ≤ (node_at inv D r).level

pub from-reached : (inv : Bool) (D : Diagram) (p r : ℕ) → T (from inv D p r) → ltb r 2 ≡ false → Reached inv D p r
from-reached inv D p r t e =
    let s : T (refers inv D r && leb p (node_at inv D r).level) = rw e at t in
    record {
      own = and_l (refers inv D r) (leb p (node_at inv D r).level) s;
      deep = leb→le p (node_at inv D r).level (and_r (refers inv D r) (leb p (node_at inv D r).level) s);
    }

pub from-constant : (inv : Bool) (D : Diagram) (p r : ℕ) → ltb r 2 ≡ true → T (from inv D p r)
from-constant inv D p r e = rw e tt

pub from-sooner : (inv : Bool) (D : Diagram) (p q r : ℕ) → p ≤ q → T (from inv D q r) → T (from inv D p r)
from-sooner inv D p q r h t =
    split (ltb r 2) (from-constant inv D p r)
    (λ e. let w = from-reached inv D q r t e in from-node inv D p r w.own (omega (arith, w.deep)))
