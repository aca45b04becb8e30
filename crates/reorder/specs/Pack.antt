-- Rows packed eight to a byte, row 0 in the lowest bit of the first byte. A plane of fewer than eight rows takes one byte, whose other
-- bits are zero.
-- Assumes nothing.
use Rattle.std.specs.Prelude.{Bool, cond, List, [], ◌∷◌, ◌++◌, ℕ, ◌+◌, ◌*◌, ◌^◌, ltb}
use Rattle.lists.specs.Bits.{digit}
use Rattle.diagram.specs.Tree.{Tree, leaf, node}
use Rattle.diagram.specs.Filling.Fill.{Row}

-- the rows as a number, row 0 the lowest bit
abbrev pub num : {A : Type 0} {d : ℕ} → (A → Bool) → Tree A d → ℕ
num p (leaf x) = digit (p x)
num p (node {d} l h) = num p h * 2 ^ (2 ^ d) + num p l

-- the rows as bytes
abbrev pub pack : {A : Type 0} {d : ℕ} → (A → Bool) → Tree A d → List ℕ
pack p (leaf x) = digit (p x) ∷ []
pack p (node {d} l h) = cond (ltb d 3) (num p (node l h) ∷ []) (pack p l ++ pack p h)

-- an entry's part: its values, then its care
abbrev pub encode : {d : ℕ} → Tree Row d → List ℕ
encode t = pack (λ r. r.value) t ++ pack (λ r. r.care) t
