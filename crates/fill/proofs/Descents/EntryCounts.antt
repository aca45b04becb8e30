-- How many entries each level has, a level at a time: by the next level's candidates two an entry, as the other laws of the filling go.
-- Assumes nothing.
use mathlib.Core.Path.{◌≡◌, refl, sym, ap}
use mathlib.Core.Bool.{true}
use mathlib.Core.List.{List, [], ◌∷◌}
use Prim.Native.Nat.{ℕ, zero, suc}
use lib.ListN.{length}
use Rattle.diagram.specs.Tree.{Tree}
use Rattle.diagram.specs.Filling.Fill.{Row, level, candidates}
use Rattle.diagram.proofs.Filling.Evened.{next_of, next-entries}
use Rattle.fill.specs.Calls.{entry_counts}

pub entries-zero : (fs : List (Tree Row zero)) → entry_counts zero fs ≡ []
unfolding entry_counts
entries-zero fs = refl

-- these candidates make the same entries
entries_next : (d : ℕ) (es : List (Tree Row (suc d))) → entry_counts d (candidates es) ≡ entry_counts d (next_of es)
unfolding entry_counts
entries_next zero es = refl
entries_next (suc d) es =
    ap (λ (gs : List (Tree Row (suc d))). length gs ∷ entry_counts d (candidates gs)) (sym (next-entries true [] es))

pub entries-suc : (d : ℕ) (fs : List (Tree Row (suc d)))
    → entry_counts (suc d) fs ≡ length (level true [] fs).entries ∷ entry_counts d (next_of (level true [] fs).entries)
unfolding entry_counts
entries-suc d fs =
    let es = (level true [] fs).entries in
    ap (λ (l : List ℕ). length es ∷ l) (entries_next d es)
