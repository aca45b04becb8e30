-- The filling of trees and the filling of their bytes: the same links and the same numbers of entries, level by level.
-- Assumes nothing.
use mathlib.Core.Path.{◌≡◌, sym, ap, ap₂, ◌∙◌}
use mathlib.Core.Bool.{true}
use mathlib.Core.List.{List, [], ◌∷◌, map}
use Prim.Native.Nat.{ℕ, zero, suc}
use lib.ListN.{length, length-map}
use Rattle.diagram.specs.Tree.{Tree}
use Rattle.diagram.specs.Filling.Fill.{Row, Link, level, trace}
use Rattle.diagram.proofs.Filling.Evened.{next_of}
use Rattle.diagram.proofs.Filling.Fill.{trace-zero, trace-suc}
use Rattle.reorder.specs.Sizes.{width}
use Rattle.reorder.specs.Pack.{encode}
use Rattle.matching.specs.Parts.{LevelParts, level_parts}
use Rattle.fill.specs.Calls.{entry_counts}
use Rattle.fill.specs.Inner.Descent.{level_below, links_below, counts_below}
use Rattle.matching.proofs.Parts.TreeHalves.{offered-bytes}
use Rattle.matching.proofs.Linking.TreeLevel.{level_part, level-bytes}
use Rattle.fill.proofs.Descents.EntryCounts.{entries-zero, entries-suc}
use Rattle.fill.proofs.Descents.LevelsBelow.{links-suc, counts-suc}

-- the entries of a level, and their parts
abbrev pub entries_of : {d : ℕ} → List (Tree Row d) → List (Tree Row d)
entries_of fs = (level true [] fs).entries

abbrev pub parts_of : {d : ℕ} → List (Tree Row d) → List (List ℕ)
parts_of fs = map encode (entries_of fs)

pub below-bytes : {d : ℕ} (es : List (Tree Row (suc d))) → level_below d (map encode es) ≡ level_part (level true [] (next_of es))
below-bytes {d} es = ap (level_parts (width d) []) (offered-bytes es) ∙ level-bytes [] (next_of es)

pub trace-bytes : (d : ℕ) (fs : List (Tree Row d)) → trace true d fs ≡ (level true [] fs).links ∷ links_below d (parts_of fs)
unfolding links_below
trace-bytes zero fs = trace-zero true fs
trace-bytes (suc d) fs =
    trace-suc true d fs
    ∙ ap (λ (y : List (List Link)). (level true [] fs).links ∷ y)
    (trace-bytes d (next_of (entries_of fs))
    ∙ sym
    (links-suc d (parts_of fs)
    ∙ ap (λ (l : LevelParts). l.links ∷ links_below d l.parts) (below-bytes (entries_of fs))))

pub counts-bytes : (d : ℕ) (fs : List (Tree Row d)) → entry_counts d fs ≡ counts_below d (parts_of fs)
unfolding counts_below
counts-bytes zero fs = entries-zero fs
counts-bytes (suc d) fs =
    entries-suc d fs
    ∙ ap₂ (λ (x : ℕ) (xs : List ℕ). x ∷ xs) (sym (length-map (entries_of fs) encode)) (counts-bytes d (next_of (entries_of fs)))
    ∙ sym (counts-suc d (parts_of fs) ∙ ap (λ (l : LevelParts). length (parts_of fs) ∷ counts_below d l.parts) (below-bytes (entries_of fs)))

pub entry-levels : (d : ℕ) (fs : List (Tree Row d)) → length (entry_counts d fs) ≡ d
entry-levels zero fs = ap length (entries-zero fs)
entry-levels (suc d) fs = ap length (entries-suc d fs) ∙ ap suc (entry-levels d (next_of (entries_of fs)))
