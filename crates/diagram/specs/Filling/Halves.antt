-- Section 3 of document 01 as it stood before document 02's 2.6: an entry's 0-half and 1-half are always two candidates.
-- Only the laws that say what 2.6 leaves as it was speak of it (`cared-fill`, `cared-trace` and `cared-network`).
-- Assumes nothing.
use Rattle.std.specs.Prelude.{Bool, ◌&&◌, List, [], ◌∷◌, map, ℕ, zero, suc}
use Rattle.diagram.specs.Tree.{Tree, leaf, node, halves, pairs}
use Rattle.diagram.specs.Filling.Fill.{Row, Link, level, follow, settled}

-- every row is cared
abbrev pub cared : {d : ℕ} → Tree Row d → Bool
cared (leaf r) = r.care
cared (node l h) = cared l && cared h

unfoldable pub fill_halves : Bool → (d : ℕ) → List (Tree Row d) → List (Tree Bool d)
fill_halves inv zero fs = map settled fs
fill_halves inv (suc d) fs =
    map (follow (pairs (fill_halves inv d (halves (level inv [] fs).entries)))) (level inv [] fs).links

unfoldable pub trace_halves : Bool → (d : ℕ) → List (Tree Row d) → List (List Link)
trace_halves inv zero fs = (level inv [] fs).links ∷ []
trace_halves inv (suc d) fs = (level inv [] fs).links ∷ trace_halves inv d (halves (level inv [] fs).entries)
