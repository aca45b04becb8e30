-- The two top variables of a part exchanged, on its bytes, whatever they are: the part's quarters are put together anew. d variables are
-- below the two.
-- Assumes nothing.
use Rattle.std.specs.Prelude.{Bool, true, false, cond, List, [], ◌∷◌, ◌++◌, ℕ, suc, ◌+◌, ◌*◌, ◌^◌, ltb, get_or, take, drop}
use Rattle.reorder.specs.Sizes.{width}
use Rattle.matching.specs.Parts.{half_byte, half_bytes}

-- two halves of d variables as one, the first in the lowest bits
abbrev pub join_byte : ℕ → ℕ → ℕ → ℕ
join_byte d low high = high * 2 ^ (2 ^ d) + low

abbrev pub join_bytes : ℕ → List ℕ → List ℕ → List ℕ
join_bytes d low high = cond (ltb d 3) (join_byte d (get_or low 0 0) (get_or high 0 0) ∷ []) (low ++ high)

-- halves b of two bytes, and of two planes of d + 1 variables
abbrev pub paired_byte : Bool → ℕ → ℕ → ℕ → ℕ
paired_byte b d low high = join_byte d (half_byte b d low) (half_byte b d high)

abbrev pub paired_bytes : Bool → ℕ → List ℕ → List ℕ → List ℕ
paired_bytes b d low high = join_bytes d (half_bytes b d (width d) low) (half_bytes b d (width d) high)

-- a byte of d + 2 variables, and a plane of them
unfoldable pub exchanged_byte : ℕ → ℕ → ℕ
exchanged_byte d x =
    join_byte (suc d) (paired_byte false d (half_byte false (suc d) x) (half_byte true (suc d) x))
    (paired_byte true d (half_byte false (suc d) x) (half_byte true (suc d) x))

unfoldable pub exchanged_plane : ℕ → List ℕ → List ℕ
exchanged_plane d x =
    join_bytes (suc d) (paired_bytes false d (half_bytes false (suc d) (width (suc d)) x) (half_bytes true (suc d) (width (suc d)) x))
    (paired_bytes true d (half_bytes false (suc d) (width (suc d)) x) (half_bytes true (suc d) (width (suc d)) x))

-- a part: its values and its care
unfoldable pub exchanged_part : ℕ → List ℕ → List ℕ
exchanged_part d part = exchanged_plane d (take (width (suc (suc d))) part) ++ exchanged_plane d (drop (width (suc (suc d))) part)
