-- Where a level's parts lie in the work buffer, and the work buffer after a level.
-- Assumes nothing.
use Rattle.std.specs.Prelude.{List, [], ℕ, suc, ◌+◌, take, drop}
use Rattle.lists.specs.Written.{splice}
use Rattle.reorder.specs.Sizes.{width}
use Rattle.matching.specs.Parts.{LevelParts, level_parts, offered_parts, chunks, flat}
use Rattle.matching.specs.Links.{link_bytes}

-- the part of an entry of d variables at byte a, and k parts from there on
abbrev pub part_at : ℕ → ℕ → List ℕ → List ℕ
part_at d a work = take (width d + width d) (drop a work)

abbrev pub parts_at : ℕ → ℕ → ℕ → List ℕ → List (List ℕ)
parts_at d k a work = chunks (width d + width d) k (drop a work)

-- k parts of w bytes of values from byte a on
abbrev pub parts_of : ℕ → ℕ → ℕ → List ℕ → List (List ℕ)
parts_of w k a work = chunks (w + w) k (drop a work)

-- what the halves, of d variables, of the count parts at `from` come to
abbrev pub linked_level : ℕ → ℕ → ℕ → List ℕ → LevelParts
linked_level d from count work = level_parts (width d) [] (offered_parts d (parts_at (suc d) count from work))

-- a work buffer with the entries' parts written from byte `to` on, and the candidates' links from byte `links` on
unfoldable pub written : LevelParts → ℕ → ℕ → List ℕ → List ℕ
written l to links work = splice (splice work to (flat l.parts)) links (link_bytes l.links)
