-- Numbers by test: what it says that two differ, and the numbers below n.
-- Assumes nothing.
use mathlib.Core.Path.{◌≡◌, refl, sym, ap, ◌∙◌, subst}
use mathlib.Core.Bool.{Bool, true, false, not, ◌&&◌, and-true}
use mathlib.Core.List.{List, [], ◌∷◌}
use mathlib.Core.Logic.{◌≢◌}
use Prim.Native.Nat.{ℕ, zero, suc, ◌+◌, ◌≤◌, ◌<◌}
use native.Mathlib.Nat.{not-suc-le-zero}
use native.Mathlib.Numerals.{add-one}
use native.Mathlib.Omega.{arith}
use lib.Dec.{T, eqb, ltb, eqb→eq, eqb_refl, ltb→lt, lt→ltb}
use lib.ListN.{length, length-append}
use Rattle.lists.specs.Lists.{all, has, distinct, up_to}
use Rattle.lists.proofs.Bools.{split, to-T, to-not, absurd-T, and_T, or_l}
use Rattle.lists.proofs.Lists.Membership.{eqb-equality, all-has, has_all, all_append, all-append-and, has-append-l, has-append-r, pigeonhole}

pub differ : (m n : ℕ) → eqb m n ≡ false → m ≢ n
differ m n e p = absurd-T (subst (λ (k : ℕ). T (eqb m k)) p (eqb_refl m)) e

pub unequal : (m n : ℕ) → m ≢ n → eqb m n ≡ false
unequal m n d = split (eqb m n) (λ e. absurd (d (eqb→eq m n (to-T e)))) (λ e. e)

pub differ-swap : (m n : ℕ) → eqb m n ≡ false → eqb n m ≡ false
differ-swap m n e = split (eqb n m) (λ q. absurd (differ m n e (sym (eqb→eq n m (to-T q))))) (λ q. q)

pub below_other : (v n : ℕ) → v < suc n → eqb v n ≡ false → v < n
below_other v n h e = let d : v ≢ n = differ v n e in omega arith

-- the numbers below n

pub length-up_to : (n : ℕ) → length (up_to n) ≡ n
length-up_to zero = refl
length-up_to (suc n) = omega (arith, length-append (up_to n) (n ∷ []), length-up_to n)

pub has-up_to : (v n : ℕ) → v < n → T (has eqb v (up_to n))
has-up_to v zero h = absurd (not-suc-le-zero h)
has-up_to v (suc n) h =
    split (eqb v n) (λ e. has-append-r eqb eqb-equality v (up_to n) (n ∷ []) (or_l (eqb v n) false (to-T e)))
    (λ e. has-append-l eqb eqb-equality v (up_to n) (n ∷ []) (has-up_to v n (below_other v n h e)))

pub up_to-below : (n : ℕ) → T (all (λ v. ltb v n) (up_to n))
up_to-below zero = tt
up_to-below (suc n) =
    all_append (λ v. ltb v (suc n)) (up_to n) (n ∷ [])
    (has_all eqb eqb-equality (λ v. ltb v (suc n)) (up_to n)
    (λ v h. let l = ltb→lt v n (all-has eqb eqb-equality (λ w. ltb w n) (up_to n) (up_to-below n) v h) in lt→ltb v (suc n) (omega arith)))
    (and_T (ltb n (suc n)) true (lt→ltb n (suc n) (omega arith)) tt)

pub up_to-lt : (v n : ℕ) → T (has eqb v (up_to n)) → v < n
up_to-lt v n h = ltb→lt v n (all-has eqb eqb-equality (λ w. ltb w n) (up_to n) (up_to-below n) v h)

-- a list of distinct numbers below n has at most n of them
pub few : (n : ℕ) (xs : List ℕ) → T (distinct eqb xs) → T (all (λ v. ltb v n) xs) → length xs ≤ n
few n xs d b =
    let h : length xs ≤ length (up_to n) =
    pigeonhole eqb eqb-equality xs (up_to n) d
    (λ v k. has-up_to v n (ltb→lt v n (all-has eqb eqb-equality (λ w. ltb w n) xs b v k))) in
    omega (arith, length-up_to n)

-- n distinct numbers below n leave none out
pub none-missing : (n : ℕ) (xs : List ℕ) → T (distinct eqb xs) → T (all (λ v. ltb v n) xs) → length xs ≡ n
    → (v : ℕ) → v < n → T (has eqb v xs)
none-missing n xs d b l v h =
    split (has eqb v xs) (λ e. to-T e)
    (λ e. let k : suc (length xs) ≤ n =
    few n (v ∷ xs) (and_T (not (has eqb v xs)) (distinct eqb xs) (to-not e) d)
    (and_T (ltb v n) (all (λ w. ltb w n) xs) (lt→ltb v n h) b) in
    absurd (omega arith))

-- a test over the numbers below n, one number at a time

pub all-up_to-suc : (p : ℕ → Bool) (n : ℕ) → all p (up_to (suc n)) ≡ all p (up_to n) && p n
all-up_to-suc p n = all-append-and p (up_to n) (n ∷ []) ∙ ap (λ (b : Bool). all p (up_to n) && b) (and-true (p n))

pub all-up_to-more : (p : ℕ → Bool) (n : ℕ) → all p (up_to n) ≡ true → p n ≡ true → all p (up_to (n + 1)) ≡ true
all-up_to-more p n a e = rw (add-one n, all-up_to-suc p n, a, e)

pub all-up_to-at : (p : ℕ → Bool) (n : ℕ) → T (all p (up_to n)) → (i : ℕ) → i < n → T (p i)
all-up_to-at p n t i h = all-has eqb eqb-equality p (up_to n) t i (has-up_to i n h)

pub all-up_to-of : (p : ℕ → Bool) (n : ℕ) → ((i : ℕ) → i < n → T (p i)) → T (all p (up_to n))
all-up_to-of p n f = has_all eqb eqb-equality p (up_to n) (λ i h. f i (up_to-lt i n h))

-- one failure is enough
pub all-up_to-fails : (p : ℕ → Bool) (n i : ℕ) → i < n → p i ≡ false → all p (up_to n) ≡ false
all-up_to-fails p n i h e = split (all p (up_to n)) (λ q. absurd-T (all-up_to-at p n (to-T q) i h) e) (λ q. q)
