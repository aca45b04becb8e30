-- The room that a filling takes: where candidates of d variables have at most 16,384 rows in all, every level's entries fit a region. A
-- level has at most one entry a candidate, and up to three variables at most 127.
-- Assumes nothing.
use mathlib.Core.Path.{◌≡◌, sym, ap, subst}
use mathlib.Core.Bool.{true, ◌&&◌}
use mathlib.Core.List.{List}
use Prim.Native.Nat.{ℕ, zero, suc, ◌+◌, ◌*◌, ◌-◌, ◌^◌, ◌≤◌}
use native.Mathlib.Nat.{le_trans, mul-le-mul_right}
use native.Mathlib.Omega.{arith}
use borrow.Author.Tests.{leb-true, leb-false}
use lib.Dec.{T, leb, le→leb}
use lib.ListN.{length, length-map}
use lib.Pow.{pow_mono}
use Rattle.lists.proofs.Bools.{split, and_T}
use Rattle.diagram.specs.Networks.Bound.{most_variables, most_outputs}
use Rattle.diagram.specs.Tree.{Tree}
use Rattle.diagram.specs.Filling.Fill.{Row}
use Rattle.diagram.proofs.Filling.Evened.{next_of, length-next}
use Rattle.matching.specs.Links.{region_size}
use Rattle.reorder.specs.Sizes.{width}
use Rattle.reorder.specs.Pack.{encode}
use Rattle.matching.specs.Parts.{LevelParts}
use Rattle.fill.specs.Inner.Descent.{level_below, roomy}
use Rattle.reorder.proofs.Pack.{width_small, width-suc, width-rows}
use Rattle.fill.proofs.Room.EntriesRoom.{entries-candidates, entries-most, entries_none}
use Rattle.fill.proofs.Descents.TreeDescent.{entries_of, parts_of, below-bytes}

-- at most so many rows
abbrev pub Rows : {d : ℕ} → List (Tree Row d) → Type 0
Rows {d} fs = length fs * 2 ^ d ≤ most_outputs * 2 ^ most_variables

pub entry-rows : {d : ℕ} (fs : List (Tree Row d)) → Rows fs → length (entries_of fs) * 2 ^ d ≤ most_outputs * 2 ^ most_variables
entry-rows {d} fs h = le_trans (mul-le-mul_right (2 ^ d) (entries-candidates true fs)) h

-- the candidates of the next level have no more rows
rows_next : {d : ℕ} (fs : List (Tree Row (suc d))) → Rows fs → Rows (next_of (entries_of fs))
rows_next {d} fs h =
    let n = length (entries_of fs) in
    let e : length (next_of (entries_of fs)) * 2 ^ d ≡ (2 * n) * 2 ^ d = ap (λ (k : ℕ). k * 2 ^ d) (length-next (entries_of fs)) in
    let q : n * 2 ^ suc d ≡ n * (2 * 2 ^ d) = ap (λ (k : ℕ). n * k) (omega arith) in
    omega (arith, entry-rows fs h)

few-entries : (d : ℕ) (fs : List (Tree Row (suc d))) → suc d ≤ 3 → length (entries_of fs) ≤ 127
few-entries d fs h =
    let a : 2 ^ suc d ≤ 8 = pow_mono {j = 3} h in
    let b : 2 ^ (2 ^ suc d - 1) ≤ 128 = pow_mono {j = 7} (omega arith) in
    omega (arith, entries-most d fs)

-- a level's entries, and two each of the next, in a region

fits-here : (d : ℕ) (fs : List (Tree Row (suc d))) → Rows fs
    → (length (entries_of fs) * (width (suc d) + width (suc d)) ≤ region_size)
    × ((length (entries_of fs) + length (entries_of fs)) * (width d + width d) ≤ region_size)
fits-here d fs h =
    split (leb (suc d) 3)
    (λ t. let s = leb-true (suc d) 3 t in
    let a = width_small (suc d) s in
    let b = width_small d (omega arith) in
    let c = few-entries d fs s in
    rw (a, b) (omega arith, omega arith))
    (λ t. let s = leb-false (suc d) 3 t in
    let n = length (entries_of fs) in
    let a : n * width (suc d) ≡ n * (width d + width d) = ap (λ (k : ℕ). n * k) (width-suc d (omega arith)) in
    let b : n * (width (suc d) * 8) ≡ n * 2 ^ suc d = ap (λ (k : ℕ). n * k) (width-rows (suc d) (omega arith)) in
    let c = entry-rows fs h in
    (omega arith, omega arith))

pub roomy-filled : (d : ℕ) (fs : List (Tree Row d)) → Rows fs → T (roomy d (parts_of fs))
unfolding roomy
roomy-filled zero fs h = rw (length-map (entries_of fs) encode, entries_none true fs) tt
roomy-filled (suc d) fs h =
    let k = length (parts_of fs) in
    let e : length (entries_of fs) ≡ k = sym (length-map (entries_of fs) encode) in
    let r = subst (λ (n : ℕ). (n * (width (suc d) + width (suc d)) ≤ region_size) × ((n + n) * (width d + width d) ≤ region_size)) e
    (fits-here d fs h) in
    let more : T (roomy d (level_below d (parts_of fs)).parts) =
    subst (λ (l : LevelParts). T (roomy d l.parts)) (sym (below-bytes (entries_of fs)))
    (roomy-filled d (next_of (entries_of fs)) (rows_next fs h)) in
    let a = leb (k * (width (suc d) + width (suc d))) region_size in
    let b = leb ((k + k) * (width d + width d)) region_size in
    let c = roomy d (level_below d (parts_of fs)).parts in
    and_T a (b && c) (le→leb (k * (width (suc d) + width (suc d))) region_size r.0)
    (and_T b c (le→leb ((k + k) * (width d + width d)) region_size r.1) more)
