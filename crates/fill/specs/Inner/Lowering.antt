-- The top variable at each level in turn, on parts of bytes, whatever they are: the level below entries whose top variable goes one level
-- down, and the cells of the levels with the variable where it is.
-- Assumes nothing.
use Rattle.std.specs.Prelude.{Bool, true, ◌||◌, List, [], ◌++◌, map, ℕ, suc, ◌*◌, eqb, take}
use Rattle.diagram.specs.Filling.Fill.{level}
use Rattle.diagram.specs.Networks.Trace.{differing}
use Rattle.table.specs.declared.State.{State}
use Rattle.reorder.specs.Pack.{encode}
use Rattle.matching.specs.Links.{region_size}
use Rattle.fill.specs.Calls.{drawn_outputs, per_level}
use Rattle.matching.specs.Parts.{LevelParts}
use Rattle.fill.specs.Inner.Descent.{level_below, links_below}
use Rattle.matching.specs.Exchange.{exchanged_part}

-- the outputs' entries, as bytes
abbrev pub first_parts : State → List ℕ → List ℕ → List (List ℕ)
first_parts s values care = map encode (level true [] (drawn_outputs s values care)).entries

-- where the kept entries' parts begin: one of the two regions at the front
unfoldable pub first_regions : ℕ → Bool
first_regions from = eqb from 0 || eqb from region_size

-- where the links of one level go: behind two regions that are kept and two on the way down
abbrev pub level_links_at : ℕ
level_links_at = 4 * region_size

-- the level below entries of d + 2 variables, with the two top ones exchanged
abbrev pub lowered_below : ℕ → List (List ℕ) → LevelParts
lowered_below d parts = level_below (suc d) (map (exchanged_part d) parts)

-- the cells of each level: the first p are counted already, and below them these entries of d variables are filled
abbrev pub counts_from : ℕ → ℕ → List ℕ → List (List ℕ) → List ℕ
counts_from p d above parts = per_level (take p above ++ map differing (links_below d parts))
