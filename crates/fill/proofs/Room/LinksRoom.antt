-- How many links the levels have in all: at most 4,350 for the largest table. The outputs', and two an entry of each level.
-- Assumes nothing.
use mathlib.Core.Bool.{true}
use mathlib.Core.List.{List, []}
use Prim.Native.Nat.{ℕ, zero, suc, ◌+◌, ◌*◌, ◌-◌, ◌^◌, ◌≤◌, min, suc-le-suc}
use native.Mathlib.Nat.{le_trans, le-min, min-le_left, min-le_right, add-le-add, mul-le-mul_left}
use native.Mathlib.Omega.{arith}
use lib.Dec.{T, leb, leb→le}
use lib.ListN.{length, length-append}
use Rattle.lists.specs.Lists.{all, up_to}
use Rattle.lists.proofs.Numbers.Compared.{all-up_to-at}
use Rattle.diagram.specs.Networks.Bound.{most_variables, most_outputs}
use Rattle.diagram.specs.Tree.{Tree}
use Rattle.diagram.specs.Filling.Fill.{Row, level, trace}
use Rattle.diagram.proofs.Filling.Evened.{next_of, length-next}
use Rattle.diagram.proofs.Filling.Fill.{links-length, trace-zero, trace-suc}
use Rattle.fill.specs.Work.{all_links}
use Rattle.fill.proofs.Room.EntriesRoom.{entries-candidates, entries-most}

-- the most links from a level on, where d variables are left and its candidates are k: one a candidate, and two an entry of it,
-- which are at most the candidates, and at most the classes of functions that vary
unfoldable most_links : ℕ → ℕ → ℕ
most_links zero k = k
most_links (suc d) k = k + most_links d (2 * min k (2 ^ (2 ^ suc d - 1) - 1))

most_links-mono : (d : ℕ) {k k' : ℕ} → k ≤ k' → most_links d k ≤ most_links d k'
unfolding most_links
most_links-mono zero h = h
most_links-mono (suc d) {k} h =
    let c = 2 ^ (2 ^ suc d - 1) - 1 in
    add-le-add h (most_links-mono d (mul-le-mul_left 2 (le-min (le_trans (min-le_left k c) h) (min-le_right k c))))

links-bounded : (d : ℕ) (fs : List (Tree Row d)) → length (all_links (trace true d fs)) ≤ most_links d (length fs)
unfolding most_links
links-bounded zero fs =
    rw (trace-zero true fs) (omega (arith, length-append (level true [] fs).links [], links-length true [] fs))
links-bounded (suc d) fs =
    let es = (level true [] fs).entries in
    let c = 2 ^ (2 ^ suc d - 1) - 1 in
    let few : length es ≤ c = omega (arith, entries-most d fs) in
    let most : length (next_of es) ≤ 2 * min (length fs) c =
    rw (length-next es) (mul-le-mul_left 2 (le-min (entries-candidates true fs) few)) in
    rw (trace-suc true d fs)
    (omega (
      arith,
      length-append (level true [] fs).links (all_links (trace true d (next_of es))),
      links-length true [] fs,
      links-bounded d (next_of es),
      most_links-mono d most,
    ))

-- the links of the largest table
abbrev pub links_limit : ℕ
links_limit = 4350

-- the bound at the most outputs, computed for each number of variables up to the largest
rooms-hold : T (all (λ n. leb (most_links n most_outputs) links_limit) (up_to (suc most_variables)))
unfolding most_links
rooms-hold = tt

pub links-room : (n : ℕ) (fs : List (Tree Row n)) → n ≤ most_variables → length fs ≤ most_outputs
    → length (all_links (trace true n fs)) ≤ links_limit
links-room n fs h k =
    le_trans (le_trans (links-bounded n fs) (most_links-mono n k))
    (leb→le (most_links n most_outputs) links_limit
    (all-up_to-at (λ i. leb (most_links i most_outputs) links_limit) (suc most_variables) rooms-hold n (suc-le-suc h)))
