-- The filling one level at a time: its functions are its links into those of the level's finished entries.
-- Assumes nothing.
use mathlib.Core.Path.{◌≡◌, refl, ap, ◌∙◌}
use mathlib.Core.Bool.{Bool, true, false, ◌&&◌}
use mathlib.Core.List.{List, [], ◌∷◌, map}
use Prim.Native.Nat.{ℕ, zero, suc}
use lib.ListN.{length}
use Rattle.diagram.specs.Tree.{Tree, leaf, halves, pairs}
use Rattle.diagram.specs.Filling.Fill.{Row, Link, const, Linked, candidate, level, follow, settled, fill, trace}
use Rattle.diagram.proofs.Filling.Evened.{next_of}
use Rattle.diagram.proofs.Filling.Fill.{fill-zero, fill_suc, trace-zero, trace-suc, filled-length, halves-filled}

-- the links of a level's candidates
abbrev pub links_of : {d : ℕ} → Bool → List (Tree Row d) → List Link
links_of inv fs = (level inv [] fs).links

-- the filled functions of the finished entries of a level; a single row has no entry
abbrev pub below : Bool → (d : ℕ) → List (Tree Row d) → List (Tree Bool d)
below inv zero fs = []
below inv (suc d) fs = pairs (fill inv d (next_of (level inv [] fs).entries))

-- the links of the levels below
abbrev pub lower : Bool → (d : ℕ) → List (Tree Row d) → List (List Link)
lower inv zero fs = []
lower inv (suc d) fs = trace inv d (next_of (level inv [] fs).entries)

pub below_length : (inv : Bool) (d : ℕ) (fs : List (Tree Row (suc d))) → length (below inv (suc d) fs) ≡ length (level inv [] fs).entries
below_length inv d fs = filled-length inv (level inv [] fs).entries

pub below-halves : (inv : Bool) (d : ℕ) (fs : List (Tree Row (suc d)))
    → halves (below inv (suc d) fs) ≡ fill inv d (next_of (level inv [] fs).entries)
below-halves inv d fs = halves-filled inv (level inv [] fs).entries

-- a single row ends in a constant, and makes no entry

abbrev row : Bool → Bool → Tree Row 0
row c v = leaf (record { value = v; care = c })

abbrev linked : Bool → Bool → List (Tree Row 0) → Linked 0
linked c v gs = record { entries = gs; link = const (c && v) }

single : (inv c v : Bool) (gs : List (Tree Row 0)) → candidate inv (row c v) gs ≡ linked c v gs
single inv true true gs = refl
single inv true false gs = refl
single inv false true gs = refl
single inv false false gs = refl

pub candidate-zero : (inv : Bool) (r : Row) (gs : List (Tree Row 0)) → candidate inv (leaf r) gs ≡ linked r.care r.value gs
candidate-zero inv r gs = single inv r.care r.value gs

settled-links : (inv : Bool) (gs fs : List (Tree Row 0)) → map settled fs ≡ map (follow []) (level inv gs fs).links
settled-links inv gs [] = refl
settled-links inv gs (leaf r ∷ fs) =
    rw (candidate-zero inv r gs) (ap (λ (l : List (Tree Bool 0)). leaf (r.care && r.value) ∷ l) (settled-links inv gs fs))

-- a level's filled functions are what its links stand for
pub fill-below : (inv : Bool) (d : ℕ) (fs : List (Tree Row d)) → fill inv d fs ≡ map (follow (below inv d fs)) (links_of inv fs)
fill-below inv zero fs = fill-zero inv fs ∙ settled-links inv [] fs
fill-below inv (suc d) fs = fill_suc inv d fs

pub trace-lower : (inv : Bool) (d : ℕ) (fs : List (Tree Row d)) → trace inv d fs ≡ links_of inv fs ∷ lower inv d fs
trace-lower inv zero fs = trace-zero inv fs
trace-lower inv (suc d) fs = trace-suc inv d fs
