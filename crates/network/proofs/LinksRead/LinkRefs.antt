-- Link numbers and references: the opposite of a reference by its low bit, and what a link's number stands for.
-- Assumes nothing.
use mathlib.Core.Path.{◌≡◌, sym, ap, ap₂, ◌∙◌, subst}
use mathlib.Core.Bool.{Bool, true, false}
use mathlib.Core.List.{List, [], ◌∷◌, ◌++◌, map}
use Prim.Native.Nat.{ℕ, zero, suc, ◌+◌, ◌*◌, ◌-◌, ◌/◌, ◌%◌, ◌≤◌, ◌<◌}
use native.Mathlib.Nat.{add-zero, le_of_suc-le-suc, not-suc-le-zero}
use native.Mathlib.Omega.{arith}
use borrow.Author.Tests.{lt-ltb, le-ltb, eqb-true, eqb-false}
use lib.Dec.{eqb, lit<}
use lib.ListN.{length, get_or}
use Rattle.lists.specs.Bits.{digit}
use Rattle.lists.proofs.Bools.{split}
use Rattle.lists.proofs.Bits.Digits.{digit-le, eqb-digit}
use Rattle.diagram.specs.Filling.Fill.{Link, const, entry}
use Rattle.diagram.specs.Networks.Diagram.{inverts, opposite}
use Rattle.diagram.specs.Networks.Trace.{link_ref}
use Rattle.diagram.proofs.Tracing.Rising.{Valid, AllValid}
use Rattle.matching.specs.Links.{link_number}
use Rattle.fill.proofs.Counting.LinkPairs.{Links}
use Rattle.network.specs.Levels.{stored_limit, stored_at, ref_at}
use Rattle.network.proofs.LinksRead.Stored.{same-stored}

-- the opposite of a reference

pub opposite-small : (odd : Bool) (r : ℕ) → r < stored_limit → opposite odd r < stored_limit
opposite-small false r h = h
opposite-small true r h =
    split (eqb (r % 2) 1) (λ e. rw e (omega (arith, eqb-true (r % 2) 1 e))) (λ e. rw e (omega (arith, eqb-false (r % 2) 1 e)))

-- what a link number stands for

pub ref-constant : (work : List ℕ) (below k : ℕ) → k < 2 → ref_at work below k ≡ k
unfolding ref_at
ref-constant work below k h = rw (lt-ltb k 2 h)

pub ref-entry : (work : List ℕ) (below k : ℕ) → 2 ≤ k
    → ref_at work below k ≡ opposite (inverts true k) (stored_at work (below + 4 * (k / 2 - 1)))
unfolding ref_at
ref-entry work below k h = rw (le-ltb k 2 h)

-- the number of a link: 0 and 1 the constants, then two an entry

number-odd : (k : ℕ) (i : Bool) → inverts true (link_number (entry k i)) ≡ i
number-odd k i =
    let e : (2 * suc k + digit i) % 2 ≡ digit i = omega (arith, digit-le i) in
    ap (λ x. eqb x 1) e ∙ eqb-digit i

number-index : (k : ℕ) (i : Bool) → link_number (entry k i) / 2 - 1 ≡ k
number-index k i = omega (arith, digit-le i)

-- references in the work buffer every four bytes from byte i on

abbrev pub Slots : List ℕ → ℕ → List ℕ → Type 0
Slots w i [] = Unit {0}
Slots w i (r ∷ rs) = (stored_at w i ≡ r) × Slots w (i + 4) rs

pub links-kept : (w w' : List ℕ) (i : ℕ) (ks : List Link) → ((j : ℕ) → i ≤ j → j < i + 2 * length ks → get_or w' j 0 ≡ get_or w j 0)
    → Links w i ks → Links w' i ks
links-kept w w' i [] f h = tt
links-kept w w' i (k ∷ ks) f h = (
  same-stored w w' i (f i (omega arith) (omega arith)) (f (i + 1) (omega arith) (omega arith)) ∙ h.0,
  links-kept w w' (i + 2) ks (λ j a b. f j (omega arith) (omega arith)) h.1,
)

pub slots_kept : (w w' : List ℕ) (i : ℕ) (rs : List ℕ) → ((j : ℕ) → i ≤ j → get_or w' j 0 ≡ get_or w j 0) → Slots w i rs → Slots w' i rs
slots_kept w w' i [] f h = tt
slots_kept w w' i (r ∷ rs) f h =
    (same-stored w w' i (f i (omega arith)) (f (i + 1) (omega arith)) ∙ h.0, slots_kept w w' (i + 4) rs (λ j a. f j (omega arith)) h.1)

pub links-split : (w : List ℕ) (i : ℕ) (ks ls : List Link) → Links w i (ks ++ ls) → Links w i ks × Links w (i + 2 * length ks) ls
links-split w i [] ls h = (tt, subst (λ x. Links w x ls) (sym (add-zero i)) h)
links-split w i (k ∷ ks) ls h =
    let r = links-split w (i + 2) ks ls h.1 in
    let e : i + 2 + 2 * length ks ≡ i + 2 * suc (length ks) = omega arith in
    ((h.0, r.0), subst (λ x. Links w x ls) e r.1)

slot_at : (w : List ℕ) (i : ℕ) (rs : List ℕ) → Slots w i rs → (j : ℕ) → j < length rs → stored_at w (i + 4 * j) ≡ get_or rs j 0
slot_at w i [] h j l = absurd (not-suc-le-zero l)
slot_at w i (r ∷ rs) h zero l = ap (stored_at w) (add-zero i) ∙ h.0
slot_at w i (r ∷ rs) h (suc j) l =
    let e : i + 4 * suc j ≡ i + 4 + 4 * j = omega arith in
    ap (stored_at w) e ∙ slot_at w (i + 4) rs h.1 j (le_of_suc-le-suc l)

-- a link's number stands for the link's reference
pub number-ref : (w : List ℕ) (below : ℕ) (rs : List ℕ) → Slots w below rs → (k : Link) → Valid true (length rs) k
    → ref_at w below (link_number k) ≡ link_ref rs k
number-ref w below rs h (const true) v = ref-constant w below 1 (lit< tt)
number-ref w below rs h (const false) v = ref-constant w below 0 (lit< tt)
number-ref w below rs h (entry k i) v =
    ref-entry w below (2 * suc k + digit i) (omega arith)
    ∙ ap₂ opposite (number-odd k i) (ap (λ x. stored_at w (below + 4 * x)) (number-index k i) ∙ slot_at w below rs h k v.0)

pub links-refs : (w : List ℕ) (below : ℕ) (rs : List ℕ) → Slots w below rs → (i : ℕ) (ks : List Link) → Links w i ks
    → AllValid true (length rs) ks
    → (j : ℕ) → j < length ks → ref_at w below (stored_at w (i + 2 * j)) ≡ get_or (map (link_ref rs) ks) j 0
links-refs w below rs h i [] l v j a = absurd (not-suc-le-zero a)
links-refs w below rs h i (k ∷ ks) l v zero a =
    ap (λ x. ref_at w below (stored_at w x)) (add-zero i) ∙ ap (ref_at w below) l.0 ∙ number-ref w below rs h k v.0
links-refs w below rs h i (k ∷ ks) l v (suc j) a =
    let e : i + 2 * suc j ≡ i + 2 + 2 * j = omega arith in
    ap (λ x. ref_at w below (stored_at w x)) e ∙ links-refs w below rs h (i + 2) ks l.1 v.1 j (le_of_suc-le-suc a)
