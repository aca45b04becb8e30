-- Up to eight bytes as one number, the first byte the lowest: the rows of a narrow part, or eight bytes of a wide one.
-- Assumes nothing.
use Rattle.std.specs.Prelude.{◌≡◌, List, [], ◌∷◌, ◌++◌, ℕ, zero, suc, ◌+◌, ◌*◌, ◌/◌, ◌%◌, length, refl}
use Rattle.std.proofs.Common.{ap, ap₂, ◌∙◌, length-append}
pub use Rattle.matching.specs.Links.{word_size}

abbrev pub number_of : List ℕ → ℕ
number_of [] = 0
number_of (b ∷ bs) = b + 256 * number_of bs

-- the w lowest bytes of a number
abbrev pub bytes_of : ℕ → ℕ → List ℕ
bytes_of zero x = []
bytes_of (suc w) x = x % 256 ∷ bytes_of w (x / 256)

-- the part whose values are the w lowest bytes of f, and whose care those of c
abbrev pub part_of : ℕ → ℕ → ℕ → List ℕ
part_of w f c = bytes_of w f ++ bytes_of w c

-- the law of candidates of two words: how long their parts are
pub length-bytes_of : (w x : ℕ) → length (bytes_of w x) ≡ w
length-bytes_of zero x = refl
length-bytes_of (suc w) x = ap suc (length-bytes_of w (x / 256))

pub length-part_of : (w f c : ℕ) → length (part_of w f c) ≡ w + w
length-part_of w f c = length-append (bytes_of w f) (bytes_of w c) ∙ ap₂ ◌+◌ (length-bytes_of w f) (length-bytes_of w c)
