-- Links as bytes, two each, lowest first; and the bytes of a region, for the parts of one level's entries, and of a word.
-- Assumes nothing.
use Rattle.std.specs.Prelude.{List, [], ◌∷◌, ℕ, suc, ◌+◌, ◌*◌, ◌/◌, ◌%◌}
use Rattle.lists.specs.Bits.{digit}
use Rattle.diagram.specs.Filling.Fill.{Link, const, entry}

abbrev pub region_size : ℕ
region_size = 4096

abbrev pub word_size : ℕ
word_size = 8

-- a link as a number: 0 and 1 the constants, then two an entry, plain and inverted
abbrev pub link_number : Link → ℕ
link_number (const v) = digit v
link_number (entry k i) = 2 * suc k + digit i

-- links as 16-bit numbers, low byte first
abbrev pub link_bytes : List Link → List ℕ
link_bytes [] = []
link_bytes (k ∷ ks) = link_number k % 256 ∷ link_number k / 256 % 256 ∷ link_bytes ks
