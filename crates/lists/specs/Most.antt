-- The first of a list with the most.
-- Assumes nothing.
use Rattle.std.specs.Prelude.{cond, List, [], ◌∷◌, ℕ, ltb}

-- the first of v and the list with the most, by a number each
abbrev pub most_of : (ℕ → ℕ) → ℕ → List ℕ → ℕ
most_of f v [] = v
most_of f v (w ∷ ws) = cond (ltb (f v) (f w)) (most_of f w ws) (most_of f v ws)

-- the first of the list with the most; 0 of an empty list
abbrev pub most : (ℕ → ℕ) → List ℕ → ℕ
most f [] = 0
most f (v ∷ vs) = most_of f v vs
