-- Orders of the variables: which variable stands at each level, the top level first (document 01: place, order).
-- Assumes nothing.
use Rattle.std.specs.Prelude.{Bool, ◌&&◌, List, ◌∷◌, ◌++◌, ℕ, eqb, ltb, length, get_or, take, drop}
use Rattle.lists.specs.Lists.{all, distinct, index, without}
use Rattle.lists.specs.Bits.{row_number, bit}

-- each of the n variables once: n entries, each below n, none twice (law every-variable: none is missing)
unfoldable pub is_order : ℕ → List ℕ → Bool
is_order n order = eqb (length order) n && (all (λ v. ltb v n) order && distinct eqb order)

-- a drawn row as the levels see it: its bit of the variable at level p. 'In a row number, input 0 is the most significant bit'
abbrev pub row_under : ℕ → List ℕ → ℕ → ℕ → Bool
row_under n order r p = bit n (get_or order p 0) r

-- the drawn row behind row s of the reordered table, whose most significant bit is the top level's
unfoldable pub behind : ℕ → List ℕ → ℕ → ℕ
behind n order s = row_number n (λ v. bit n (index eqb v order) s)

-- the variable v moved to level p, the others in sequence
unfoldable pub moved : ℕ → ℕ → List ℕ → List ℕ
moved v p order = take p (without eqb v order) ++ (v ∷ drop p (without eqb v order))
