-- The first of a list with the most, and that it is the lowest of those where the list rises; the numbers below n rise.
-- Assumes nothing.
use mathlib.Core.Path.{ap, subst⁻¹}
use mathlib.Core.Bool.{Bool, true, false, not, cond, ◌&&◌}
use mathlib.Core.List.{List, [], ◌∷◌, ◌++◌}
use mathlib.Core.Logic.{⊎_elim}
use Prim.Native.Nat.{ℕ, zero, suc, ◌≤◌, ◌<◌}
use native.Mathlib.Nat.{not-suc-le-zero}
use native.Mathlib.Omega.{arith}
use lib.Dec.{T, eqb, ltb, eqb→eq, ltb→lt, lt→ltb, nltb→le}
use lib.ListN.{length}
use Rattle.lists.specs.Lists.{all, keep, has, distinct, up_to}
use Rattle.lists.specs.Most.{most_of, most}
use Rattle.lists.proofs.Bools.{split, to-T, to-not, and_T, and_l, and_r, or_l, or_r, or_cases}
use Rattle.lists.proofs.Numbers.Compared.{up_to-below}
use Rattle.lists.proofs.Lists.Membership.{eqb-equality, all-has, has_all, all_append, keep-has, has_here}

-- rising lists

-- each is below all that follow
abbrev pub rising : List ℕ → Bool
rising [] = true
rising (x ∷ xs) = all (ltb x) xs && rising xs

pub rising-first : (x : ℕ) (xs : List ℕ) → T (rising (x ∷ xs)) → (w : ℕ) → T (has eqb w xs) → x < w
rising-first x xs r w h = ltb→lt x w (all-has eqb eqb-equality (ltb x) xs (and_l (all (ltb x) xs) (rising xs) r) w h)

pub rising-rest : (x : ℕ) (xs : List ℕ) → T (rising (x ∷ xs)) → T (rising xs)
rising-rest x xs r = and_r (all (ltb x) xs) (rising xs) r

-- without the second
rising-skip : (x y : ℕ) (xs : List ℕ) → T (rising (x ∷ y ∷ xs)) → T (rising (x ∷ xs))
rising-skip x y xs r =
    and_T (all (ltb x) xs) (rising xs)
    (and_r (ltb x y) (all (ltb x) xs) (and_l (all (ltb x) (y ∷ xs)) (rising (y ∷ xs)) r))
    (rising-rest y xs (rising-rest x (y ∷ xs) r))

pub rising-distinct : (xs : List ℕ) → T (rising xs) → T (distinct eqb xs)
rising-distinct [] r = tt
rising-distinct (x ∷ xs) r =
    and_T (not (has eqb x xs)) (distinct eqb xs)
    (split (has eqb x xs) (λ e. let h = rising-first x xs r x (to-T e) in absurd (omega arith)) (λ e. to-not e))
    (rising-distinct xs (rising-rest x xs r))

pub rising-keep : (p : ℕ → Bool) (xs : List ℕ) → T (rising xs) → T (rising (keep p xs))
rising-keep p [] r = tt
rising-keep p (x ∷ xs) r =
    split (p x)
    (λ e. rw e (and_T (all (ltb x) (keep p xs)) (rising (keep p xs))
    (has_all eqb eqb-equality (ltb x) (keep p xs)
    (λ w h. lt→ltb x w (rising-first x xs r w (keep-has eqb eqb-equality p w xs h).0)))
    (rising-keep p xs (rising-rest x xs r))))
    (λ e. rw e (rising-keep p xs (rising-rest x xs r)))

rising-append : (n : ℕ) (xs : List ℕ) → T (rising xs) → T (all (λ v. ltb v n) xs) → T (rising (xs ++ n ∷ []))
rising-append n [] r b = tt
rising-append n (x ∷ xs) r b =
    and_T (all (ltb x) (xs ++ n ∷ [])) (rising (xs ++ n ∷ []))
    (all_append (ltb x) xs (n ∷ []) (and_l (all (ltb x) xs) (rising xs) r)
    (and_T (ltb x n) true (and_l (ltb x n) (all (λ v. ltb v n) xs) b) tt))
    (rising-append n xs (rising-rest x xs r) (and_r (ltb x n) (all (λ v. ltb v n) xs) b))

pub rising-up_to : (n : ℕ) → T (rising (up_to n))
rising-up_to zero = tt
rising-up_to (suc n) = rising-append n (up_to n) (rising-up_to n) (up_to-below n)

-- the most

module _ (f : ℕ → ℕ) where
  most_of-has : (v : ℕ) (ws : List ℕ) → T (has eqb (most_of f v ws) (v ∷ ws))
  most_of-has v [] = has_here eqb eqb-equality v []
  most_of-has v (w ∷ ws) =
      split (ltb (f v) (f w))
      (λ e. subst⁻¹ (λ (b : Bool). T (has eqb (cond b (most_of f w ws) (most_of f v ws)) (v ∷ w ∷ ws))) e
      (or_r (eqb (most_of f w ws) v) (has eqb (most_of f w ws) (w ∷ ws)) (most_of-has w ws)))
      (λ e. subst⁻¹ (λ (b : Bool). T (has eqb (cond b (most_of f w ws) (most_of f v ws)) (v ∷ w ∷ ws))) e
      (⊎_elim (λ s. or_l (eqb (most_of f v ws) v) (has eqb (most_of f v ws) (w ∷ ws)) s)
      (λ s. or_r (eqb (most_of f v ws) v) (has eqb (most_of f v ws) (w ∷ ws)) (or_r (eqb (most_of f v ws) w) (has eqb (most_of f v ws) ws) s))
      (or_cases (eqb (most_of f v ws) v) (has eqb (most_of f v ws) ws) (most_of-has v ws))))

  most_of-most : (v : ℕ) (ws : List ℕ) → (w : ℕ) → T (has eqb w (v ∷ ws)) → f w ≤ f (most_of f v ws)
  most_of-most v [] w h =
      ⊎_elim (λ s. let e = ap f (eqb→eq w v s) in omega arith) (λ s. absurd s) (or_cases (eqb w v) false h)
  most_of-most v (x ∷ ws) w h =
      split (ltb (f v) (f x))
      (λ e. let l : f v < f x = ltb→lt (f v) (f x) (to-T e) in
      let top : f x ≤ f (most_of f x ws) = most_of-most x ws x (has_here eqb eqb-equality x ws) in
      rw e (⊎_elim (λ s. let q = ap f (eqb→eq w v s) in omega arith) (λ s. most_of-most x ws w s)
      (or_cases (eqb w v) (has eqb w (x ∷ ws)) h)))
      (λ e. let l : f x ≤ f v = nltb→le (f v) (f x) (to-not e) in
      let top : f v ≤ f (most_of f v ws) = most_of-most v ws v (has_here eqb eqb-equality v ws) in
      rw e (⊎_elim (λ s. let q = ap f (eqb→eq w v s) in omega arith)
      (λ s. ⊎_elim (λ z. let q = ap f (eqb→eq w x z) in omega arith)
      (λ z. most_of-most v ws w (or_r (eqb w v) (has eqb w ws) z))
      (or_cases (eqb w x) (has eqb w ws) s))
      (or_cases (eqb w v) (has eqb w (x ∷ ws)) h)))

  -- an x that is passed over has no more than v, which stands before it: one with the most that is above x is above v too, so it
  -- has more than v and more than x
  most_of-first : (v : ℕ) (ws : List ℕ) → T (rising (v ∷ ws)) → (w : ℕ) → T (has eqb w (v ∷ ws)) → w < most_of f v ws
      → f w < f (most_of f v ws)
  most_of-first v [] r w h l =
      ⊎_elim (λ s. let e = eqb→eq w v s in absurd (omega arith)) (λ s. absurd s) (or_cases (eqb w v) false h)
  most_of-first v (x ∷ ws) r w h l =
      split (ltb (f v) (f x))
      (λ e. let k : f v < f x = ltb→lt (f v) (f x) (to-T e) in
      let top : f x ≤ f (most_of f x ws) = most_of-most x ws x (has_here eqb eqb-equality x ws) in
      rw e (⊎_elim (λ s. let q = ap f (eqb→eq w v s) in omega arith)
      (λ s. most_of-first x ws (rising-rest v (x ∷ ws) r) w s (rw e at l))
      (or_cases (eqb w v) (has eqb w (x ∷ ws)) h)))
      (λ e. let k : f x ≤ f v = nltb→le (f v) (f x) (to-not e) in
      let l' : w < most_of f v ws = rw e at l in
      let below : v < most_of f v ws → f v < f (most_of f v ws) =
      λ b. most_of-first v ws (rising-skip v x ws r) v (has_here eqb eqb-equality v ws) b in
      let vx : v < x = rising-first v (x ∷ ws) r x (has_here eqb eqb-equality x ws) in
      rw e (⊎_elim (λ s. most_of-first v ws (rising-skip v x ws r) w (or_l (eqb w v) (has eqb w ws) s) l')
      (λ s. ⊎_elim
      (λ z. let q = eqb→eq w x z in let fq = ap f q in let b = below (omega arith) in omega arith)
      (λ z. most_of-first v ws (rising-skip v x ws r) w (or_r (eqb w v) (has eqb w ws) z) l')
      (or_cases (eqb w x) (has eqb w ws) s))
      (or_cases (eqb w v) (has eqb w (x ∷ ws)) h)))

  pub most-has : (xs : List ℕ) → 0 < length xs → T (has eqb (most f xs) xs)
  most-has [] h = absurd (not-suc-le-zero h)
  most-has (v ∷ vs) h = most_of-has v vs

  pub most-most : (xs : List ℕ) (w : ℕ) → T (has eqb w xs) → f w ≤ f (most f xs)
  most-most [] w h = absurd h
  most-most (v ∷ vs) w h = most_of-most v vs w h

  -- of a rising list it is the lowest with the most
  pub most-first : (xs : List ℕ) → T (rising xs) → (w : ℕ) → T (has eqb w xs) → w < most f xs → f w < f (most f xs)
  most-first [] r w h l = absurd h
  most-first (v ∷ vs) r w h l = most_of-first v vs r w h l
