-- The links of a filling: two an entry of each level, each a constant or an entry of the level below, as many that differ as the level
-- has nodes.
-- Assumes nothing.
use mathlib.Core.Path.{◌≡◌, refl, sym, ap, ◌∙◌, subst}
use mathlib.Core.Bool.{true}
use mathlib.Core.List.{List, [], ◌∷◌, ◌++◌}
use Prim.Native.Nat.{ℕ, zero, suc, ◌+◌, ◌*◌, ◌≤◌, ◌<◌, suc-le-suc, zero-le}
use native.Mathlib.Nat.{add-zero, le_trans, not-suc-le-zero, le_of_suc-le-suc}
use native.Mathlib.Omega.{arith}
use lib.ListN.{length, get_or, length-append}
use Rattle.diagram.specs.Tree.{Tree}
use Rattle.diagram.specs.Filling.Fill.{Row, Link, const, entry, level, trace}
use Rattle.diagram.specs.Networks.Trace.{differing}
use Rattle.diagram.proofs.Filling.Evened.{next_of, length-next}
use Rattle.diagram.proofs.Filling.Fill.{links-length}
use Rattle.diagram.proofs.Filling.Levels.{links_of, below, below_length, lower, trace-lower}
use Rattle.diagram.proofs.Tracing.Rising.{AllValid, links-rising, rising-valid}
use Rattle.fill.specs.Work.{all_links}
use Rattle.fill.specs.Calls.{entry_counts}
use Rattle.fill.proofs.Descents.EntryCounts.{entries-suc}
use Rattle.network.proofs.LinksRead.LevelRead.{pairs_of, pairs-half}
use Rattle.network.proofs.LinksRead.LevelsRead.{top_entries, Sized}

-- the candidates of the next level
abbrev next : {d : ℕ} → List (Tree Row (suc d)) → List (Tree Row d)
next fs = next_of (level true [] fs).entries

next-length : {d : ℕ} (fs : List (Tree Row (suc d))) → length (links_of true (next fs)) ≡ 2 * length (level true [] fs).entries
next-length fs = links-length true [] (next fs) ∙ length-next (level true [] fs).entries

top-entries : (d : ℕ) (fs : List (Tree Row d)) → length (below true d fs) ≡ top_entries (lower true d fs)
top-entries zero fs = refl
top-entries (suc d) fs =
    below_length true d fs ∙ sym (pairs-half (links_of true (next fs)) (length (level true [] fs).entries) (next-length fs))
    ∙ ap top_entries (sym (trace-lower true d (next fs)))

pub links-valid : (d : ℕ) (fs : List (Tree Row d)) → AllValid true (top_entries (lower true d fs)) (links_of true fs)
links-valid d fs =
    subst (λ n. AllValid true n (links_of true fs)) (top-entries d fs)
    (rising-valid true 0 (length (below true d fs)) (links_of true fs) (links-rising true d fs))

pub lower-length : (d : ℕ) (fs : List (Tree Row d)) → length (lower true d fs) ≡ d
lower-length zero fs = refl
lower-length (suc d) fs = ap length (trace-lower true d (next fs)) ∙ ap suc (lower-length d (next fs))

-- entries and counts are those of the levels from p on: of each level half of its links, and as many as differ
pub trace-sized : (m : ℕ) (entries counts : List ℕ) (d p : ℕ) (fs : List (Tree Row d))
    → ((j : ℕ) → j < d → 2 * get_or entries (p + j) 0 ≡ length (get_or (lower true d fs) j []))
    → ((j : ℕ) → j < d → get_or counts (p + j) 0 ≡ differing (get_or (lower true d fs) j [])) → Sized m entries counts p (lower true d fs)
trace-sized m entries counts zero p fs f g = tt
trace-sized m entries counts (suc d) p fs f g =
    let e = trace-lower true d (next fs) in
    let at : (j : ℕ) → get_or (trace true d (next fs)) j [] ≡ get_or (links_of true (next fs) ∷ lower true d (next fs)) j [] =
    λ j. ap (λ (l : List (List Link)). get_or l j []) e in
    let f₀ = ap (λ x. 2 * get_or entries x 0) (sym (add-zero p)) ∙ f 0 (suc-le-suc zero-le) ∙ ap length (at 0) in
    let g₀ = ap (λ x. get_or counts x 0) (sym (add-zero p)) ∙ g 0 (suc-le-suc zero-le) ∙ ap differing (at 0) in
    rw e (
      sym f₀,
      g₀,
      links-valid d (next fs),
      trace-sized m entries counts d (suc p) (next fs)
          (λ j h. let k : suc p + j ≡ p + suc j = omega arith in
          ap (λ x. 2 * get_or entries x 0) k ∙ f (suc j) (suc-le-suc h) ∙ ap length (at (suc j)))
          (λ j h. let k : suc p + j ≡ p + suc j = omega arith in
          ap (λ x. get_or counts x 0) k ∙ g (suc j) (suc-le-suc h) ∙ ap differing (at (suc j))),
    )

-- a level's entries are half its links
pub entries-half : (d : ℕ) (fs : List (Tree Row d)) (j : ℕ) → j < d
    → 2 * get_or (entry_counts d fs) j 0 ≡ length (get_or (lower true d fs) j [])
entries-half zero fs j h = absurd (not-suc-le-zero h)
entries-half (suc d) fs zero h = rw (entries-suc d fs, trace-lower true d (next fs)) (sym (next-length fs))
entries-half (suc d) fs (suc j) h =
    rw (entries-suc d fs, trace-lower true d (next fs)) (entries-half d (next fs) j (le_of_suc-le-suc h))

-- every link of the filling is a constant or one of few entries

valid-more : (n n' : ℕ) (ls : List Link) → n ≤ n' → AllValid true n ls → AllValid true n' ls
valid-more n n' [] h v = tt
valid-more n n' (const b ∷ ls) h v = (tt, valid-more n n' ls h v.1)
valid-more n n' (entry k i ∷ ls) h v = ((le_trans v.0.0 h, v.0.1), valid-more n n' ls h v.1)

valid-append : (n : ℕ) (ks ls : List Link) → AllValid true n ks → AllValid true n ls → AllValid true n (ks ++ ls)
valid-append n [] ls v w = w
valid-append n (k ∷ ks) ls v w = (v.0, valid-append n ks ls v.1 w)

pairs-few : (ls : List Link) → pairs_of ls ≤ length ls
pairs-few [] = zero-le
pairs-few (k ∷ []) = zero-le
pairs-few (k ∷ l ∷ ls) = omega (arith, pairs-few ls)

top-few : (lss : List (List Link)) → top_entries lss ≤ length (all_links lss)
top-few [] = zero-le
top-few (ls ∷ lss) = omega (arith, pairs-few ls, length-append ls (all_links lss))

pub trace-valid : (d n : ℕ) (fs : List (Tree Row d)) → length (all_links (trace true d fs)) ≤ n
    → AllValid true n (all_links (trace true d fs))
trace-valid zero n fs h =
    let e = trace-lower true zero fs in
    rw e (valid-append n (links_of true fs) [] (valid-more 0 n (links_of true fs) zero-le (links-valid zero fs)) tt)
trace-valid (suc d) n fs h =
    let e = trace-lower true (suc d) fs in
    let h' : length (links_of true fs ++ all_links (lower true (suc d) fs)) ≤ n = rw e at h in
    let few : length (all_links (lower true (suc d) fs)) ≤ n =
    omega (arith, length-append (links_of true fs) (all_links (lower true (suc d) fs))) in
    rw e
    (valid-append n (links_of true fs) (all_links (lower true (suc d) fs))
    (valid-more (top_entries (lower true (suc d) fs)) n (links_of true fs) (le_trans (top-few (lower true (suc d) fs)) few)
    (links-valid (suc d) fs))
    (trace-valid d n (next fs) few))
