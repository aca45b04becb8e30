-- The level that sifting takes: of those with the fewest the present one, or else the smallest.
-- Assumes nothing.
use mathlib.Core.Path.{◌≡◌, refl, sym, ap, ◌∙◌, subst}
use mathlib.Core.Bool.{true, false, cond, ◌&&◌, ◌||◌}
use mathlib.Core.List.{List}
use Prim.Native.Nat.{ℕ, zero, suc, ◌≤◌, ◌<◌, suc-le-suc}
use native.Mathlib.Nat.{not-suc-le-zero, le_refl, le_antisymm, le_of_suc-le-suc}
use native.Mathlib.Omega.{arith}
use borrow.Author.Tests.{lt-ltb, le-ltb}
use lib.Dec.{T, eqb, ltb, leb, eqb→eq, eqb_refl, ltb→lt, nltb→le, leb→le, le→leb, nleb→lt}
use Rattle.lists.specs.Lists.{index}
use Rattle.lists.proofs.Bools.{split, of_T, to-T, to-not, and_T, and_l, and_r, both_ways}
use Rattle.lists.proofs.Numbers.Compared.{differ, differ-swap, below_other}
use Rattle.diagram.specs.Orders.Order.{moved}
use Rattle.diagram.specs.Table.{Table, cost}
use Rattle.diagram.specs.Orders.Sift.{fewest, among_fewest, preferred, chosen}

module _ (f : ℕ → ℕ) where
  pub fewest-le : (k : ℕ) → fewest f k ≤ k
  fewest-le zero = omega arith
  fewest-le (suc k) =
      split (ltb (f (suc k)) (f (fewest f k))) (λ e. rw e (le_refl (suc k))) (λ e. rw e (omega (arith, fewest-le k)))

  -- by the last level: its number is below the fewest so far, or it isn't
  pub fewest-least : (k p : ℕ) → p ≤ k → f (fewest f k) ≤ f p
  fewest-least zero p h = let e : p ≡ 0 = omega arith in rw e (le_refl (f 0))
  fewest-least (suc k) p h =
      split (ltb (f (suc k)) (f (fewest f k)))
      (λ e. let l : f (suc k) < f (fewest f k) = ltb→lt (f (suc k)) (f (fewest f k)) (to-T e) in
      rw e (split (eqb p (suc k)) (λ q. rw (eqb→eq p (suc k) (to-T q)) (le_refl (f (suc k))))
      (λ q. let z = fewest-least k p (le_of_suc-le-suc (below_other p (suc k) (suc-le-suc h) q)) in omega arith)))
      (λ e. let l : f (fewest f k) ≤ f (suc k) = nltb→le (f (suc k)) (f (fewest f k)) (to-not e) in
      rw e (split (eqb p (suc k)) (λ q. rw (eqb→eq p (suc k) (to-T q)) l)
      (λ q. fewest-least k p (le_of_suc-le-suc (below_other p (suc k) (suc-le-suc h) q)))))

  -- every smaller level has more
  pub fewest-first : (k p : ℕ) → p < fewest f k → f (fewest f k) < f p
  fewest-first zero p h = absurd (not-suc-le-zero h)
  fewest-first (suc k) p h =
      split (ltb (f (suc k)) (f (fewest f k)))
      (λ e. let l : f (suc k) < f (fewest f k) = ltb→lt (f (suc k)) (f (fewest f k)) (to-T e) in
      let h' : p < suc k = rw e at h in
      let z = fewest-least k p (omega arith) in
      rw e (omega arith))
      (λ e. rw e (fewest-first k p (rw e at h)))

-- with a present level, among 0 to k
module _ (f : ℕ → ℕ) (present : ℕ) where
  -- it is among the fewest, or the smallest of them is taken
  preferred-cases {ℓ} : (X : ℕ → Type ℓ) (k : ℕ) → (present ≤ k → f present ≡ f (fewest f k) → X present) → X (fewest f k)
      → X (preferred f present k)
  unfolding preferred
  preferred-cases X k stays goes =
      split (among_fewest f k present)
      (λ e. rw e (stays (leb→le present k (and_l (leb present k) (eqb (f present) (f (fewest f k))) (to-T e)))
      (eqb→eq (f present) (f (fewest f k)) (and_r (leb present k) (eqb (f present) (f (fewest f k))) (to-T e)))))
      (λ e. rw e goes)

  pub preferred-le : (k : ℕ) → preferred f present k ≤ k
  preferred-le k = preferred-cases (λ p. p ≤ k) k (λ h _. h) (fewest-le f k)

  -- it has as many as the smallest of the fewest
  pub preferred-same : (k : ℕ) → f (preferred f present k) ≡ f (fewest f k)
  preferred-same k = preferred-cases (λ p. f p ≡ f (fewest f k)) k (λ _ e. e) refl

  pub preferred-least : (k p : ℕ) → p ≤ k → f (preferred f present k) ≤ f p
  preferred-least k p h = rw (preferred-same k) (fewest-least f k p h)

  -- where no level has fewer than the present one, it is kept
  pub preferred-stays : (k : ℕ) → present ≤ k → ((p : ℕ) → p ≤ k → f present ≤ f p) → preferred f present k ≡ present
  unfolding preferred
  preferred-stays k h least =
      let e : f present ≡ f (fewest f k) = le_antisymm (least (fewest f k) (fewest-le f k)) (fewest-least f k present h) in
      let i : among_fewest f k present ≡ true = of_T (and_T (leb present k) (eqb (f present) (f (fewest f k))) (le→leb present k h)
      (subst (λ (x : ℕ). T (eqb (f present) x)) e (eqb_refl (f present)))) in
      rw i

  -- where one has fewer, the smallest of the fewest is taken
  pub preferred-goes : (k p : ℕ) → p ≤ k → f p < f present → preferred f present k ≡ fewest f k
  preferred-goes k p h l =
      preferred-cases (λ q. q ≡ fewest f k) k (λ _ e. absurd (omega (arith, fewest-least f k p h))) refl

  -- one level after the other: the next is taken where it has fewer than the one so far, or as many and is the present one

  pub preferred-zero : preferred f present 0 ≡ 0
  preferred-zero = preferred-cases (λ p. p ≡ 0) 0 (λ h _. omega arith) refl

  module _ (k : ℕ) where
    then-fewer : f (suc k) < f (fewest f k) → preferred f present (suc k) ≡ suc k
    then-fewer l =
        let e : ltb (f (suc k)) (f (fewest f k)) ≡ true = lt-ltb (f (suc k)) (f (fewest f k)) l in
        let last : fewest f (suc k) ≡ suc k = rw e in
        preferred-cases (λ p. p ≡ suc k) (suc k)
        (λ h d. split (leb present k)
        (λ i. absurd (omega (arith, fewest-least f k present (leb→le present k (to-T i)), d ∙ ap f last)))
        (λ i. omega (arith, nleb→lt present k (to-not i))))
        last

    module _ (l : f (fewest f k) ≤ f (suc k)) where
      same-fewest : fewest f (suc k) ≡ fewest f k
      same-fewest = let e : ltb (f (suc k)) (f (fewest f k)) ≡ false = le-ltb (f (suc k)) (f (fewest f k)) l in rw e

      then-present : suc k ≡ present → f (suc k) ≡ f (fewest f k) → preferred f present (suc k) ≡ suc k
      then-present d e =
          preferred-stays (suc k) (omega arith)
          (λ p h. let z = fewest-least f (suc k) p h in omega (arith, ap f d, ap f same-fewest))
          ∙ sym d

      then-dearer : suc k ≡ present → f (fewest f k) < f (suc k) → preferred f present (suc k) ≡ preferred f present k
      then-dearer d h =
          preferred-goes (suc k) (fewest f k) (omega (arith, fewest-le f k)) (omega (arith, ap f d))
          ∙ same-fewest
          ∙ preferred-cases (λ p. fewest f k ≡ p) k (λ i _. absurd (omega arith)) refl

      then-other : (suc k ≡ present → ⊥) → preferred f present (suc k) ≡ preferred f present k
      unfolding preferred
      then-other d =
          let i : leb present (suc k) ≡ leb present k = both_ways (leb present (suc k)) (leb present k)
          (λ h. le→leb present k (below h))
          (λ h. le→leb present (suc k) (omega (arith, leb→le present k h))) in
          rw (i, same-fewest)
        where
          below : T (leb present (suc k)) → present ≤ k
          below h =
              split (leb present k) (λ e. leb→le present k (to-T e))
              (λ e. absurd (d (omega (arith, nleb→lt present k (to-not e), leb→le present (suc k) h))))

    pub preferred-suc : preferred f present (suc k)
        ≡ cond (ltb (f (suc k)) (f (preferred f present k)) || (eqb (suc k) present && eqb (f (suc k)) (f (preferred f present k))))
        (suc k) (preferred f present k)
    preferred-suc =
        let x = f (suc k) in
        let least = f (fewest f k) in
        rw (preferred-same k)
        (split (ltb x least)
        (λ e. rw e (then-fewer (ltb→lt x least (to-T e))))
        (λ e. let l = nltb→le x least (to-not e) in
        split (eqb (suc k) present)
        (λ d. let q = eqb→eq (suc k) present (to-T d) in
        split (eqb x least)
        (λ s. rw (e, d, s) (then-present l q (eqb→eq x least (to-T s))))
        (λ s. rw (e, d, s) (then-dearer l q (below_other least x (suc-le-suc l) (differ-swap x least s)))))
        (λ d. rw (e, d) (then-other l (differ (suc k) present d)))))

module _ (t : Table) (v : ℕ) (order : List ℕ) where
  abbrev at_level : ℕ → ℕ
  at_level p = cost t (moved v p order)

  pub chosen-below : (n : ℕ) → 0 < n → chosen t v order n < n
  unfolding chosen
  chosen-below zero h = absurd (not-suc-le-zero h)
  chosen-below (suc k) h = omega (arith, preferred-le at_level (index eqb v order) k)

  pub chosen-least : (n p : ℕ) → p < n → cost t (moved v (chosen t v order n) order) ≤ cost t (moved v p order)
  unfolding chosen
  chosen-least zero p h = absurd (not-suc-le-zero h)
  chosen-least (suc k) p h = preferred-least at_level (index eqb v order) k p (omega arith)

  -- the present level is kept where it is among the fewest
  pub chosen-stays : (n : ℕ) → index eqb v order < n
      → ((p : ℕ) → p < n → cost t (moved v (index eqb v order) order) ≤ cost t (moved v p order)) → chosen t v order n ≡ index eqb v order
  unfolding chosen
  chosen-stays zero h least = absurd (not-suc-le-zero h)
  chosen-stays (suc k) h least = preferred-stays at_level (index eqb v order) k (omega arith) (λ p i. least p (omega arith))

  -- otherwise every smaller level has more
  pub chosen-first : (n q : ℕ) → q < n → cost t (moved v q order) < cost t (moved v (index eqb v order) order)
      → (p : ℕ) → p < chosen t v order n → cost t (moved v (chosen t v order n) order) < cost t (moved v p order)
  unfolding chosen
  chosen-first zero q h l p i = absurd (not-suc-le-zero h)
  chosen-first (suc k) q h l p i =
      let e = preferred-goes at_level (index eqb v order) k q (omega arith) l in
      subst (λ (x : ℕ). at_level x < at_level p) (sym e) (fewest-first at_level k p (subst (λ (x : ℕ). p < x) e i))

  -- as cheap as the smallest of the fewest, which is the level that was taken before document 02's 2.3
  pub chosen-same : (k : ℕ) → cost t (moved v (chosen t v order (suc k)) order) ≡ cost t (moved v (fewest at_level k) order)
  unfolding chosen
  chosen-same k = preferred-same at_level (index eqb v order) k

-- it goes by the costs alone
pub chosen-cong : (t u : Table) → ((order : List ℕ) → cost t order ≡ cost u order) → (v : ℕ) (order : List ℕ) (n : ℕ)
    → chosen t v order n ≡ chosen u v order n
unfolding chosen
chosen-cong t u e v order zero = refl
chosen-cong t u e v order (suc k) = ap (λ (f : ℕ → ℕ). preferred f (index eqb v order) k) (λ i p. e (moved v p order) i)
