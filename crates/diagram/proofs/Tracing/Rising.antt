-- The links of a level rise: each is a constant, an entry met before, or the next entry, and that one plain.
-- Assumes nothing.
use mathlib.Core.Path.{◌≡◌, refl, sym, ap, ◌∙◌, subst, subst₂}
use mathlib.Core.Bool.{Bool, true, false, ◌&&◌, and-false}
use mathlib.Core.List.{List, [], ◌∷◌}
use mathlib.Core.Logic.{◌⊎◌, inl, inr}
use Prim.Native.Nat.{ℕ, zero, suc, ◌+◌, ◌≤◌, ◌<◌}
use native.Mathlib.Nat.{le_trans, zero-add}
use native.Mathlib.Omega.{arith}
use lib.ListN.{length}
use Rattle.lists.proofs.Bools.{split}
use Rattle.diagram.specs.Tree.{Tree, leaf}
use Rattle.diagram.specs.Filling.Fill.{Row, Link, const, entry, agree, always, along, candidate, level}
use Rattle.diagram.proofs.Filling.Levels.{links_of, below, below_length, candidate-zero}

-- from k entries met to m by one link
abbrev pub Step : Bool → ℕ → Link → ℕ → Type 0
Step inv k (const v) m = m ≡ k
Step inv k (entry j i) m = ((j < k) × (i ≡ (inv && i)) × (m ≡ k)) ⊎ ((j ≡ k) × (i ≡ false) × (m ≡ suc k))

-- from k entries met to m by several
abbrev pub Rising : Bool → ℕ → List Link → ℕ → Type 0
Rising inv k [] m = k ≡ m
Rising inv k (l ∷ ls) m = (n : ℕ) × Step inv k l n × Rising inv n ls m

plain : (inv : Bool) → false ≡ (inv && false)
plain inv = sym (and-false inv)

-- an inverted match is made only where references may invert
inverting : (inv b : Bool) → (inv && b) ≡ true → true ≡ (inv && true)
inverting true b e = refl
inverting false b e = sym e

along-step : {d : ℕ} (inv : Bool) (k : ℕ) (f : Tree Row d) (gs : List (Tree Row d))
    → Step inv (k + length gs) (along inv k f gs).link (k + length (along inv k f gs).entries)
along-step inv k f [] = inr (omega arith, refl, omega arith)
along-step inv k f (g ∷ gs) =
    split (agree false f g) (λ e. rw e (inl (omega arith, plain inv, refl)))
    (λ e. rw e (split (inv && agree true f g) (λ q. rw q (inl (omega arith, inverting inv (agree true f g) q, refl)))
    (λ q. rw q
    (subst₂ (λ m n. Step inv m (along inv (suc k) f gs).link n)
    (shift (length gs)) (shift (length (along inv (suc k) f gs).entries)) (along-step inv (suc k) f gs)))))
  where
    shift : (n : ℕ) → suc k + n ≡ k + suc n
    shift n = omega arith

candidate-step : {d : ℕ} (inv : Bool) (f : Tree Row d) (gs : List (Tree Row d))
    → Step inv (length gs) (candidate inv f gs).link (length (candidate inv f gs).entries)
candidate-step inv f gs =
    split (always false f) (λ e. rw e refl)
    (λ e. rw e (split (always true f) (λ q. rw q refl)
    (λ q. rw q (subst₂ (λ m n. Step inv m (along inv 0 f gs).link n) (zero-add (length gs)) (zero-add (length (along inv 0 f gs).entries))
    (along-step inv 0 f gs)))))

level-rising : {d : ℕ} (inv : Bool) (gs fs : List (Tree Row d))
    → Rising inv (length gs) (level inv gs fs).links (length (level inv gs fs).entries)
level-rising inv gs [] = refl
level-rising inv gs (f ∷ fs) =
    (length (candidate inv f gs).entries, candidate-step inv f gs, level-rising inv (candidate inv f gs).entries fs)

zero-rising : (inv : Bool) (fs : List (Tree Row 0)) → Rising inv 0 (level inv [] fs).links 0
zero-rising inv [] = refl
zero-rising inv (leaf r ∷ fs) = rw (candidate-zero inv r []) (0, refl, zero-rising inv fs)

-- the links of a level rise through all its entries
pub links-rising : (inv : Bool) (d : ℕ) (fs : List (Tree Row d)) → Rising inv 0 (links_of inv fs) (length (below inv d fs))
links-rising inv zero fs = zero-rising inv fs
links-rising inv (suc d) fs = subst (λ m. Rising inv 0 (links_of inv fs) m) (sym (below_length inv d fs)) (level-rising inv [] fs)

step-le : (inv : Bool) (k m : ℕ) (l : Link) → Step inv k l m → k ≤ m
step-le inv k m (const v) s = omega arith
step-le inv k m (entry j i) (inl s) = omega arith
step-le inv k m (entry j i) (inr s) = omega arith

pub rising_le : (inv : Bool) (k m : ℕ) (ls : List Link) → Rising inv k ls m → k ≤ m
rising_le inv k m [] r = omega arith
rising_le inv k m (l ∷ ls) r = le_trans (step-le inv k r.0 l r.1) (rising_le inv r.0 m ls r.2)

-- a constant or one of m entries, inverted only where references may invert
abbrev pub Valid : Bool → ℕ → Link → Type 0
Valid inv m (const v) = Unit {0}
Valid inv m (entry j i) = (j < m) × (i ≡ (inv && i))

abbrev pub AllValid : Bool → ℕ → List Link → Type 0
AllValid inv m [] = Unit {0}
AllValid inv m (l ∷ ls) = Valid inv m l × AllValid inv m ls

step-valid : (inv : Bool) (k n m : ℕ) (l : Link) → n ≤ m → Step inv k l n → Valid inv m l
step-valid inv k n m (const v) h s = tt
step-valid inv k n m (entry j i) h (inl s) = (omega arith, s.1)
step-valid inv k n m (entry j i) h (inr s) = (omega arith, s.1 ∙ plain inv ∙ ap (λ b. inv && b) (sym s.1))

pub rising-valid : (inv : Bool) (k m : ℕ) (ls : List Link) → Rising inv k ls m → AllValid inv m ls
rising-valid inv k m [] r = tt
rising-valid inv k m (l ∷ ls) r =
    (step-valid inv k r.0 m l (rising_le inv r.0 m ls r.2) r.1, rising-valid inv r.0 m ls r.2)
