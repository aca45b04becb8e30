-- The first of plain and inverted in which a candidate f agrees with an entry's part g, and the search for such an entry.
-- Assumes nothing.
use Rattle.std.proofs.Common.{◌≡◌, refl, ◌∙◌, subst, Bool, true, false, cond, List, [], ◌∷◌, ℕ, suc, ◌+◌, ◌*◌, ◌≤◌, ◌<◌, Option, Some, None, arith}
use native.Mathlib.Nat.{mul-le-mul_left, mul-le-mul_right}
use Rattle.lists.proofs.Bools.{split}
use Rattle.matching.specs.Parts.{always_part, agree_part}
use Rattle.matching.specs.Inner.Found.{constant, agreement, found}

-- parts have two bytes at the least
pub twice-le : (k w n : ℕ) → 0 < w → k * (w + w) ≤ n → 2 * k ≤ n
twice-le k w n h m =
    let two : 2 ≤ w + w = omega arith in
    omega (arith, mul-le-mul_left k two)

-- the part of entry e, of s bytes at a, lies among those of k entries
pub part-within : (k e a s : ℕ) → e < k → a ≡ e * s → a + s ≤ k * s
part-within k e a s h at =
    let m : e + 1 ≤ k = omega arith in
    omega (arith, mul-le-mul_right s m)

-- i is the first of false and true to pass a test
abbrev pub Passes : (Bool → Bool) → Bool → Type 0
Passes test i = (i ≡ true → test false ≡ false) × (test i ≡ true)

abbrev picked : (Bool → Bool) → Option Bool
picked test = cond (test false) (Some false) (cond (test true) (Some true) None)

module _ (test : Bool → Bool) where
  pub plain-passes : test false ≡ true → Passes test false
  plain-passes t = (λ e. cc, t)

  pub inverted-passes : test false ≡ false → test true ≡ true → Passes test true
  inverted-passes s t = (λ _. s, t)

  picked-first : (i : Bool) → Passes test i → Some i ≡ picked test
  picked-first false h = let t = h.1 in rw t
  picked-first true h = let s = h.0 refl in let t = h.1 in rw (s, t)

  picked-none : test false ≡ false → test true ≡ false → None ≡ picked test
  picked-none s t = rw (s, t)

  -- what the pick says
  passes : (i : Bool) → picked test ≡ Some i → Passes test i
  passes i e =
      split (test false)
      (λ p. let q : Some false ≡ Some i = picked-first false (plain-passes p) ∙ e in
      let r : false ≡ i = cc in subst (Passes test) r (plain-passes p))
      (λ p. split (test true)
      (λ q. let z : Some true ≡ Some i = picked-first true (inverted-passes p q) ∙ e in
      let r : true ≡ i = cc in subst (Passes test) r (inverted-passes p q))
      (λ q. let z : None ≡ Some i = picked-none p q ∙ e in absurd (cc)))

  misses : picked test ≡ None → (test false ≡ false) × (test true ≡ false)
  misses e =
      split (test false) (λ p. let z : Some false ≡ None = picked-first false (plain-passes p) ∙ e in absurd (cc))
      (λ p. split (test true) (λ q. let z : Some true ≡ None = picked-first true (inverted-passes p q) ∙ e in absurd (cc)) (λ q. (p, q)))

-- f is constant
abbrev pub Constant : Bool → ℕ → List ℕ → Type 0
Constant v w f = Passes (λ v. always_part v w f) v

module _ (w : ℕ) (f : List ℕ) where
  pub constant-met : (v : Bool) → Constant v w f → Some v ≡ constant w f
  unfolding constant
  constant-met v h = picked-first (λ v. always_part v w f) v h

  pub constant-missed : always_part false w f ≡ false → always_part true w f ≡ false → None ≡ constant w f
  unfolding constant
  constant-missed s t = picked-none (λ v. always_part v w f) s t

  pub is_constant : (v : Bool) → constant w f ≡ Some v → Constant v w f
  unfolding constant
  is_constant v e = passes (λ v. always_part v w f) v e

  pub no-constant : constant w f ≡ None → (always_part false w f ≡ false) × (always_part true w f ≡ false)
  unfolding constant
  no-constant e = misses (λ v. always_part v w f) e

-- i is the first of plain and inverted to agree
abbrev pub First : Bool → ℕ → List ℕ → List ℕ → Type 0
First i w f g = Passes (λ i. agree_part i w f g) i

module _ (w : ℕ) (f g : List ℕ) where
  pub plain-first : agree_part false w f g ≡ true → First false w f g
  plain-first t = plain-passes (λ i. agree_part i w f g) t

  pub inverted-first : agree_part false w f g ≡ false → agree_part true w f g ≡ true → First true w f g
  inverted-first s t = inverted-passes (λ i. agree_part i w f g) s t

  pub agreement-met : (i : Bool) → First i w f g → Some i ≡ agreement w f g
  unfolding agreement
  agreement-met i h = picked-first (λ i. agree_part i w f g) i h

  pub agreement-missed : agree_part false w f g ≡ false → agree_part true w f g ≡ false → None ≡ agreement w f g
  unfolding agreement
  agreement-missed s t = picked-none (λ i. agree_part i w f g) s t

  pub is_first : (i : Bool) → agreement w f g ≡ Some i → First i w f g
  unfolding agreement
  is_first i e = passes (λ i. agree_part i w f g) i e

  pub disagrees : agreement w f g ≡ None → (agree_part false w f g ≡ false) × (agree_part true w f g ≡ false)
  unfolding agreement
  disagrees e = misses (λ i. agree_part i w f g) e

-- one of several entries: it is found, or passed
pub found_first : (i : Bool) (w e : ℕ) (f g : List ℕ) (gs : List (List ℕ)) → First i w f g → found w e f (g ∷ gs) ≡ Some (e, i)
unfolding found
found_first false w e f g gs h = let t = h.1 in rw t
found_first true w e f g gs h = let s = h.0 refl in let t = h.1 in rw (s, t)

pub found-pass : (w e : ℕ) (f g : List ℕ) (gs : List (List ℕ)) → agree_part false w f g ≡ false → agree_part true w f g ≡ false
    → found w e f (g ∷ gs) ≡ found w (suc e) f gs
unfolding found
found-pass w e f g gs p q = rw (p, q)

pub found-last : (w e : ℕ) (f : List ℕ) → found w e f [] ≡ None
unfolding found
found-last w e f = refl
