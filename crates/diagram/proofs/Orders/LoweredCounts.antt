-- How many nodes stand at each level, with the top variable at each level in turn: the entries above it are kept, and at each level it goes
-- below the one under it. Lowering only shuffles rows, so these are the counts of the lowered candidates filled from the top.
-- Assumes nothing.
use mathlib.Core.Path.{◌≡◌, refl, sym, ap, ap₂, ◌∙◌}
use mathlib.Core.Bool.{Bool, true}
use mathlib.Core.List.{List, [], ◌∷◌, map, map-map, map-id}
use Prim.Native.Nat.{ℕ, zero, suc, ◌*◌}
use lib.ListN.{length, length-map}
use Rattle.lists.specs.Lists.{up_to}
use Rattle.lists.proofs.Numbers.UpTo.{map-up_to-first, map-up_to-cong}
use Rattle.diagram.specs.Tree.{Tree}
use Rattle.diagram.specs.Filling.Fill.{Row, level, fill}
use Rattle.diagram.specs.Networks.Network.{counts}
use Rattle.diagram.specs.Networks.Trace.{differing, traced_counts}
use Rattle.diagram.proofs.Filling.Evened.{next_of, length-next}
use Rattle.diagram.proofs.Filling.Fill.{trace-suc}
use Rattle.diagram.proofs.Filling.Levels.{links_of, trace-lower}
use Rattle.diagram.proofs.Tracing.Traced.{traced-counts}
use Rattle.diagram.proofs.Orders.Shuffle.{level-shuffled, underneath, next-shuffled}
use Rattle.diagram.proofs.Orders.Lowered.{exchange, lowered, shuffle-lowered}

-- the candidates of the next level, where the entries' top variable goes below the one under it: fs are a level's candidates
abbrev pub lowered_next : {d : ℕ} → List (Tree Row (suc (suc d))) → List (Tree Row (suc d))
lowered_next fs = next_of (map exchange (level true [] fs).entries)

-- the nodes of each level under the candidates fs, with their top variable at each level in turn
unfoldable pub lowered_counts : (d : ℕ) → List (Tree Row d) → List (List ℕ)
lowered_counts zero fs = []
lowered_counts (suc zero) fs = counts true 1 (fill true 1 fs) ∷ []
lowered_counts (suc (suc d)) fs =
    counts true (suc (suc d)) (fill true (suc (suc d)) fs)
    ∷ map (λ r. differing (level true [] (lowered_next fs)).links ∷ r) (lowered_counts (suc d) (lowered_next fs))

pub lowered-one : (fs : List (Tree Row 1)) → lowered_counts 1 fs ≡ counts true 1 (fill true 1 fs) ∷ []
unfolding lowered_counts
lowered-one fs = refl

pub lowered-suc : (d : ℕ) (fs : List (Tree Row (suc (suc d)))) → lowered_counts (suc (suc d)) fs
    ≡ counts true (suc (suc d)) (fill true (suc (suc d)) fs)
    ∷ map (λ r. differing (level true [] (lowered_next fs)).links ∷ r) (lowered_counts (suc d) (lowered_next fs))
unfolding lowered_counts
lowered-suc d fs = refl

pub length-lowered-next : {d : ℕ} (fs : List (Tree Row (suc (suc d)))) → length (lowered_next fs) ≡ 2 * length (level true [] fs).entries
length-lowered-next fs =
    length-next (map exchange (level true [] fs).entries) ∙ ap (λ k. 2 * k) (length-map (level true [] fs).entries exchange)

-- the nodes of the top level by the next level's links, then those below
counts-next : (inv : Bool) (d : ℕ) (fs : List (Tree Row (suc d))) → counts inv (suc d) (fill inv (suc d) fs)
    ≡ differing (links_of inv (next_of (level inv [] fs).entries)) ∷ counts inv d (fill inv d (next_of (level inv [] fs).entries))
unfolding traced_counts
counts-next inv d fs =
    let gs = next_of (level inv [] fs).entries in
    let e = trace-lower inv d gs in
    sym (traced-counts inv (suc d) fs) ∙ ap traced_counts (trace-suc inv d fs) ∙ ap (map differing) e
    ∙ ap (λ (l : List ℕ). differing (links_of inv gs) ∷ l) (sym (ap traced_counts e) ∙ traced-counts inv d gs)

-- lowered trees have the trees' links
links-lowered : (inv : Bool) {d : ℕ} (p : ℕ) (fs : List (Tree Row d)) → links_of inv (map (lowered p) fs) ≡ links_of inv fs
links-lowered inv {d} p fs = ap (λ l. l.links) (level-shuffled (shuffle-lowered d p) inv [] fs)

-- the next level's candidates are those of the kept entries, lowered
next-lowered : {d : ℕ} (p : ℕ) (fs : List (Tree Row (suc (suc d))))
    → next_of (level true [] (map (lowered (suc p)) fs)).entries ≡ map (lowered p) (lowered_next fs)
next-lowered {d} p fs =
    let es = (level true [] fs).entries in
    ap (λ l. next_of l.entries) (level-shuffled (shuffle-lowered (suc (suc d)) (suc p)) true [] fs)
    ∙ ap next_of (sym (map-map (underneath (lowered p)) exchange es)) ∙ next-shuffled (shuffle-lowered (suc d) p) (map exchange es)

-- the nodes of each level, with the top variable p levels down
abbrev counts_lowered : (d p : ℕ) → List (Tree Row d) → List ℕ
counts_lowered d p fs = counts true d (fill true d (map (lowered p) fs))

counts-top : (d : ℕ) (fs : List (Tree Row d)) → counts true d (fill true d fs) ≡ counts_lowered d 0 fs
counts-top d fs = ap (λ gs. counts true d (fill true d gs)) (sym (map-id fs))

counts-lower : (d p : ℕ) (fs : List (Tree Row (suc (suc d))))
    → differing (links_of true (lowered_next fs)) ∷ counts_lowered (suc d) p (lowered_next fs) ≡ counts_lowered (suc (suc d)) (suc p) fs
counts-lower d p fs =
    let gs = lowered_next fs in
    sym (counts-next true (suc d) (map (lowered (suc p)) fs)
    ∙ ap (λ hs. differing (links_of true hs) ∷ counts true (suc d) (fill true (suc d) hs)) (next-lowered p fs)
    ∙ ap (λ ls. differing ls ∷ counts_lowered (suc d) p gs) (links-lowered true p gs))

-- one level more: each of the lower levels for the variable, under the nodes of this one
pub lowered-counts : (d : ℕ) (fs : List (Tree Row d))
    → lowered_counts d fs ≡ map (λ p. counts true d (fill true d (map (lowered p) fs))) (up_to d)
unfolding lowered_counts
lowered-counts zero fs = refl
lowered-counts (suc zero) fs = ap (λ (x : List ℕ). x ∷ []) (counts-top 1 fs)
lowered-counts (suc (suc d)) fs =
    let gs = lowered_next fs in
    let top = differing (links_of true gs) in
    ap₂ (λ (x : List ℕ) (l : List (List ℕ)). x ∷ l) (counts-top (suc (suc d)) fs)
    (ap (map (λ r. top ∷ r)) (lowered-counts (suc d) gs)
    ∙ map-map (λ r. top ∷ r) (λ p. counts_lowered (suc d) p gs) (up_to (suc d))
    ∙ map-up_to-cong (suc d) _ _ (λ p h. counts-lower d p fs))
    ∙ sym (map-up_to-first (λ p. counts_lowered (suc (suc d)) p fs) (suc d))
