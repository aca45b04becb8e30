-- Where the calls have all that they need, from numbers alone, whatever they are: len is how many bytes the work buffer has.
-- Assumes nothing.
use Rattle.std.specs.Prelude.{Bool, ◌&&◌, ◌||◌, ℕ, suc, ◌+◌, ◌*◌, leb, ltb, eqb}
use Rattle.diagram.specs.Networks.Bound.{most_variables}
use Rattle.reorder.specs.Sizes.{width}
use Rattle.matching.specs.Links.{region_size, word_size}

-- the regions at a and at b have no byte in common
unfoldable pub regions_apart : ℕ → ℕ → Bool
regions_apart a b = leb (a + region_size) b || leb (b + region_size) a

-- the region at a lies before the links, and in the work buffer with a word behind it
unfoldable pub region_fits : ℕ → ℕ → ℕ → Bool
region_fits a links len = leb (a + region_size) links && leb (a + region_size + word_size) len

-- a level's regions: its entries' parts are read from the one, and those of the next level go to the other
unfoldable pub regions_fit : ℕ → ℕ → ℕ → ℕ → Bool
regions_fit from to links len = regions_apart from to && (region_fits from links len && region_fits to links len)

-- a region has room for the parts of count entries of d + 1 variables, and for two of d variables of each
unfoldable pub count_fits : ℕ → ℕ → Bool
count_fits d count = leb (count * (width (suc d) + width (suc d))) region_size && leb ((count + count) * (width d + width d)) region_size

-- one level: the halves, of d variables, of the count parts at from are linked among the entries at to, and the links written at links
unfoldable pub level_fits : ℕ → ℕ → ℕ → ℕ → ℕ → ℕ → Bool
level_fits d from count to links len =
    ltb d most_variables && (regions_fit from to links len && (count_fits d count && leb (links + 4 * count) len))

-- one candidate: a part of d variables, of size bytes, is linked among the k entries at to, and its link written at l
unfoldable pub candidate_fits : ℕ → ℕ → ℕ → ℕ → ℕ → ℕ → Bool
candidate_fits d size to k l len =
    leb d most_variables
    && (eqb size (width d + width d)
    && (leb (to + region_size + word_size) len && (leb ((k + 1) * (width d + width d)) region_size && leb (l + 2) len)))

-- the count parts of d + 2 variables at from lie in the work buffer
unfoldable pub parts_fit : ℕ → ℕ → ℕ → ℕ → Bool
parts_fit d from count len = leb (d + 2) most_variables && leb (from + count * (width (suc (suc d)) + width (suc (suc d)))) len
