-- The levels below a level's entries, on parts of bytes, whatever the bytes are: their links, how many entries each has, and the room they
-- take. And the work buffer on the way down.
-- Assumes nothing.
use Rattle.std.specs.Prelude.{Bool, ◌&&◌, List, [], ◌∷◌, ℕ, zero, suc, ◌+◌, ◌*◌, ◌-◌, eqb, leb, length, take, drop}
use Rattle.lists.specs.Written.{splice}
use Rattle.diagram.specs.Filling.Fill.{Link}
use Rattle.reorder.specs.Sizes.{width}
use Rattle.matching.specs.Parts.{LevelParts, flat, offered_parts, level_parts}
use Rattle.matching.specs.Links.{region_size}
use Rattle.fill.specs.Work.{links_at, zero_work}

-- the level below entries of d + 1 variables: what their halves come to are its candidates
abbrev pub level_below : ℕ → List (List ℕ) → LevelParts
level_below d parts = level_parts (width d) [] (offered_parts d parts)

-- the links of each level below entries of d variables
unfoldable pub links_below : (d : ℕ) → List (List ℕ) → List (List Link)
links_below zero parts = []
links_below (suc d) parts = (level_below d parts).links ∷ links_below d (level_below d parts).parts

-- how many entries there are at each level, from these entries of d variables on
unfoldable pub counts_below : (d : ℕ) → List (List ℕ) → List ℕ
counts_below zero parts = []
counts_below (suc d) parts = length parts ∷ counts_below d (level_below d parts).parts

-- every level's entries fit a region, and so do twice as many of the next level; a single row makes no entry
unfoldable pub roomy : (d : ℕ) → List (List ℕ) → Bool
roomy zero parts = eqb (length parts) 0
roomy (suc d) parts =
    leb (length parts * (width (suc d) + width (suc d))) region_size
    && (leb ((length parts + length parts) * (width d + width d)) region_size && roomy d (level_below d parts).parts)

-- a work buffer that holds parts in the region at `from`, the links' bytes so far, and nothing else; what lies past its size is as it was
unfoldable pub holding : ℕ → List (List ℕ) → List ℕ → List ℕ → List ℕ
holding from parts bytes work = splice (splice (zero_work work) from (flat parts)) links_at bytes

-- the links' bytes in a work buffer, where the next goes to byte `links`
abbrev pub links_up_to : ℕ → List ℕ → List ℕ
links_up_to links work = take (links - links_at) (drop links_at work)
