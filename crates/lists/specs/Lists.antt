-- Lists by tests: membership, first-seen sequence, equality; and the numbers below n.
-- Assumes nothing.
use Rattle.std.specs.Prelude.{Bool, true, false, not, cond, ◌&&◌, ◌||◌, List, [], ◌∷◌, ◌++◌, ℕ, zero, suc}

module _ {A : Type 0} where
  -- the test holds of every element
  abbrev pub all : (A → Bool) → List A → Bool
  all p [] = true
  all p (x ∷ xs) = p x && all p xs

  -- the elements of which the test holds, in sequence
  abbrev pub keep : (A → Bool) → List A → List A
  keep p [] = []
  keep p (x ∷ xs) = cond (p x) (x ∷ keep p xs) (keep p xs)

-- `eq` is a test for equality
module _ {A : Type 0} (eq : A → A → Bool) where
  abbrev pub has : A → List A → Bool
  has x [] = false
  has x (y ∷ ys) = eq x y || has x ys

  -- how many elements stand before the first x
  abbrev pub index : A → List A → ℕ
  index x [] = zero
  index x (y ∷ ys) = cond (eq x y) zero (suc (index x ys))

  abbrev pub without : A → List A → List A
  without x [] = []
  without x (y ∷ ys) = cond (eq x y) (without x ys) (y ∷ without x ys)

  -- each element once, in first-seen sequence
  abbrev pub firsts : List A → List A
  firsts [] = []
  firsts (x ∷ xs) = x ∷ without x (firsts xs)

  -- none stands twice
  abbrev pub distinct : List A → Bool
  distinct [] = true
  distinct (x ∷ xs) = not (has x xs) && distinct xs

  -- the same elements in the same sequence
  abbrev pub equal : List A → List A → Bool
  equal [] [] = true
  equal [] (y ∷ ys) = false
  equal (x ∷ xs) [] = false
  equal (x ∷ xs) (y ∷ ys) = eq x y && equal xs ys

-- 0 to n - 1
abbrev pub up_to : ℕ → List ℕ
up_to zero = []
up_to (suc n) = up_to n ++ (n ∷ [])
