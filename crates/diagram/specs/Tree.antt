-- Perfect binary trees: what stands at each row of d variables, the top variable's 0-half first.
-- A tree is document 01's segment; its halves are the segments that fix one level more (cofactors).
-- Assumes nothing.
use Rattle.std.specs.Prelude.{Bool, true, false, cond, ◌&&◌, List, [], ◌∷◌, ℕ, zero, suc, ◌+◌, ◌*◌}
use Rattle.std.specs.Bool.{beq}
use Rattle.lists.specs.Bits.{flip}

pub data Tree (A : Type 0) : ℕ → Type 0 where
  leaf : A → Tree A zero
  node : {d : ℕ} → Tree A d → Tree A d → Tree A (suc d)

-- what stands at each row of f, by row number; s is the number that the bits above make
abbrev pub draw : {A : Type 0} → (d : ℕ) → (ℕ → A) → ℕ → Tree A d
draw zero f s = leaf (f s)
draw (suc d) f s = node (draw d f (2 * s)) (draw d f (2 * s + 1))

-- the half in which the top variable is b
abbrev pub half : {A : Type 0} {d : ℕ} → Bool → Tree A (suc d) → Tree A d
half false (node l h) = l
half true (node l h) = h

-- what stands at the row whose bit at level q is a q; the tree's top is level p
abbrev pub at : {A : Type 0} {d : ℕ} → ℕ → (ℕ → Bool) → Tree A d → A
at p a (leaf x) = x
at p a (node l h) = cond (a p) (at (suc p) a h) (at (suc p) a l)

-- the same at every row
abbrev pub full : {A : Type 0} → A → (d : ℕ) → Tree A d
full x zero = leaf x
full x (suc d) = node (full x d) (full x d)

-- each tree's 0-half, then its 1-half
abbrev pub halves : {A : Type 0} {d : ℕ} → List (Tree A (suc d)) → List (Tree A d)
halves [] = []
halves (t ∷ ts) = half false t ∷ half true t ∷ halves ts

-- the trees whose halves these are
abbrev pub pairs : {A : Type 0} {d : ℕ} → List (Tree A d) → List (Tree A (suc d))
pairs [] = []
pairs (l ∷ []) = []
pairs (l ∷ h ∷ ts) = node l h ∷ pairs ts

-- inverted at every row where i is true
abbrev pub inverted : {d : ℕ} → Bool → Tree Bool d → Tree Bool d
inverted i (leaf b) = leaf (flip i b)
inverted i (node l h) = node (inverted i l) (inverted i h)

-- the all-zero row
abbrev pub first : {d : ℕ} → Tree Bool d → Bool
first (leaf b) = b
first (node l h) = first l

-- equal at every row
abbrev pub same : {d : ℕ} → Tree Bool d → Tree Bool d → Bool
same (leaf a) (leaf b) = beq a b
same (node l h) (node l' h') = same l l' && same h h'
