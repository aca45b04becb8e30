-- The network read off the links of the filling is section 4's network of the filled functions, level by level.
-- The segments of a level show the filled functions of the entries first, in sequence (`fresh`); so the classes that depend are those of
-- the entries with two different links, in sequence.
-- Assumes nothing.
use mathlib.Core.Path.{◌≡◌, refl, sym, ap, ap₂, ◌∙◌}
use mathlib.Core.Bool.{Bool}
use mathlib.Core.List.{List, [], ◌∷◌, ◌++◌, map}
use Prim.Native.Nat.{ℕ, zero, suc, ◌+◌}
use native.Mathlib.Nat.{add-zero}
use lib.Dec.{T}
use lib.ListN.{length}
use Rattle.lists.specs.Lists.{all, distinct}
use Rattle.diagram.specs.Tree.{Tree, halves, pairs, same}
use Rattle.diagram.specs.Filling.Fill.{Row, Link, level, follow, fill, trace}
use Rattle.diagram.specs.Networks.Diagram.{Node, Diagram}
use Rattle.diagram.specs.Networks.Network.{normal, classes, refer, node_of, nodes, network, counts}
use Rattle.diagram.specs.Networks.Trace.{differing, link_ref, entry_refs, entry_nodes, traced_refs, traced_nodes, traced_network, traced_counts}
use Rattle.diagram.proofs.Tree.{varies}
use Rattle.diagram.proofs.Filling.Evened.{next_of}
use Rattle.diagram.proofs.Networks.Classes.{classes-distinct}
use Rattle.diagram.proofs.Filling.Apart.{apart-filled, varied-filled}
use Rattle.diagram.proofs.Filling.Levels.{links_of, below, below-halves, lower, fill-below, trace-lower}
use Rattle.diagram.proofs.Tracing.FirstSeen.{fresh, fresh-halves}
use Rattle.diagram.proofs.Tracing.SeenClasses.{listed, classes-fresh}
use Rattle.diagram.proofs.Tracing.Rising.{AllValid, links-rising, rising-valid}
use Rattle.diagram.proofs.Tracing.Followed.{fresh-follow}
use Rattle.diagram.proofs.Networks.Refers.{refer-follow}
use Rattle.diagram.proofs.Tracing.TracedLevel.{count-links, nodes-links, refs-links}

-- the candidates of the next level, two for each of a level's finished entries
abbrev next : {d : ℕ} → Bool → List (Tree Row (suc d)) → List (Tree Row d)
next inv fs = next_of (level inv [] fs).entries

links-valid : (inv : Bool) (d : ℕ) (fs : List (Tree Row d)) → AllValid inv (length (below inv d fs)) (links_of inv fs)
links-valid inv d fs = rising-valid inv 0 (length (below inv d fs)) (links_of inv fs) (links-rising inv d fs)

-- the filled entries of a level are the pairs of what the next level's links stand for
below-pairs : (inv : Bool) (d : ℕ) (fs : List (Tree Row (suc d)))
    → below inv (suc d) fs ≡ pairs (map (follow (below inv d (next inv fs))) (links_of inv (next inv fs)))
below-pairs inv d fs = ap pairs (fill-below inv d (next inv fs))

-- where ts are a level's segments, their classes
classes-links : (inv : Bool) (d : ℕ) (ts : List (Tree Bool (suc d))) (fs : List (Tree Row (suc d))) → fresh inv [] ts ≡ below inv (suc d) fs
    → classes inv ts ≡ listed inv (pairs (map (follow (below inv d (next inv fs))) (links_of inv (next inv fs))))
classes-links inv d ts fs s = classes-fresh inv ts ∙ ap (listed inv) (s ∙ below-pairs inv d fs)

map-follow : {d : ℕ} (inv : Bool) (base : ℕ) (ts E : List (Tree Bool d)) (ls : List Link) → AllValid inv (length E) ls
    → map (refer inv d base ts) (map (follow E) ls) ≡ map (link_ref (map (refer inv d base ts) E)) ls
map-follow inv base ts E [] v = refl
map-follow inv base ts E (l ∷ ls) v =
    ap₂ (λ (r : ℕ) (rs : List ℕ). r ∷ rs) (refer-follow inv base ts E l v.0) (map-follow inv base ts E ls v.1)

abbrev diagram : List Node → List ℕ → Diagram
diagram cs rs = record { nodes = cs; roots = rs }

-- of the filled entries of each level: their classes are different, and they vary
apart_below : (inv : Bool) (d : ℕ) (fs : List (Tree Row d)) → T (distinct same (map (normal inv) (below inv d fs)))
apart_below inv zero fs = tt
apart_below inv (suc d) fs = apart-filled inv d fs

varied-below : (inv : Bool) (d : ℕ) (fs : List (Tree Row d)) → T (all varies (below inv d fs))
varied-below inv zero fs = tt
varied-below inv (suc d) fs = varied-filled inv d fs

-- the filled functions show the entries' first
fresh-fill : (inv : Bool) (d : ℕ) (fs : List (Tree Row d)) → fresh inv [] (fill inv d fs) ≡ below inv d fs
fresh-fill inv d fs =
    ap (fresh inv []) (fill-below inv d fs)
    ∙ fresh-follow inv (below inv d fs) (apart_below inv d fs) (varied-below inv d fs) (links_of inv fs) (links-rising inv d fs)

-- and so do the segments of the next level
fresh-next : (inv : Bool) (d : ℕ) (ts : List (Tree Bool (suc d))) (fs : List (Tree Row (suc d))) → fresh inv [] ts ≡ below inv (suc d) fs
    → fresh inv [] (halves ts) ≡ below inv d (next inv fs)
fresh-next inv d ts fs s =
    fresh-halves inv [] [] ts (λ b t h. absurd h) ∙ ap (λ (x : List (Tree Bool (suc d))). fresh inv [] (halves x)) s
    ∙ ap (fresh inv []) (below-halves inv d fs) ∙ fresh-fill inv d (next inv fs)

count-level : (inv : Bool) (d : ℕ) (ts : List (Tree Bool (suc d))) (fs : List (Tree Row (suc d))) → fresh inv [] ts ≡ below inv (suc d) fs
    → length (classes inv ts) ≡ differing (links_of inv (next inv fs))
count-level inv d ts fs s =
    let gs = next inv fs in
    ap length (classes-links inv d ts fs s)
    ∙ count-links inv (below inv d gs) (apart_below inv d gs) (varied-below inv d gs) (links_of inv gs) (links-valid inv d gs)

-- the references of a level's entries, from those of the next
refs-traced : (inv : Bool) (d base : ℕ) (ts : List (Tree Bool d)) (fs : List (Tree Row d)) → fresh inv [] ts ≡ below inv d fs
    → map (refer inv d base ts) (below inv d fs) ≡ traced_refs inv base (lower inv d fs)
unfolding traced_refs
refs-traced inv zero base ts fs s = refl
refs-traced inv (suc d) base ts fs s =
    let gs = next inv fs in
    let ls = links_of inv gs in
    let E = below inv d gs in
    ap (map (refer inv (suc d) base ts)) (below-pairs inv d fs)
    ∙ refs-links inv E (apart_below inv d gs) (varied-below inv d gs) ts (base + length (classes inv ts)) base [] ls
    (links-valid inv d gs) refl
    (classes-distinct inv ts) (classes-links inv d ts fs s)
    ∙ ap₂ (λ b r. entry_refs inv b r ls) (add-zero base)
    (ap (λ k. map (refer inv d (base + k) (halves ts)) E) (count-level inv d ts fs s)
    ∙ refs-traced inv d (base + differing ls) (halves ts) gs (fresh-next inv d ts fs s))
    ∙ ap (traced_refs inv base) (sym (trace-lower inv d gs))

nodes-traced : (inv : Bool) (d p base : ℕ) (ts : List (Tree Bool d)) (fs : List (Tree Row d)) → fresh inv [] ts ≡ below inv d fs
    → nodes inv d p base ts ≡ traced_nodes inv p base (lower inv d fs)
unfolding nodes traced_nodes
nodes-traced inv zero p base ts fs s = refl
nodes-traced inv (suc d) p base ts fs s =
    let gs = next inv fs in
    let ls = links_of inv gs in
    let E = below inv d gs in
    let c = count-level inv d ts fs s in
    let more = base + length (classes inv ts) in
    ap₂ (λ (x y : List Node). x ++ y)
    (ap (map (node_of inv p more (halves ts))) (classes-links inv d ts fs s)
    ∙ nodes-links inv E (apart_below inv d gs) (varied-below inv d gs) ts more p ls (links-valid inv d gs)
    ∙ ap (λ r. entry_nodes inv p r ls)
    (ap (λ k. map (refer inv d (base + k) (halves ts)) E) c
    ∙ refs-traced inv d (base + differing ls) (halves ts) gs (fresh-next inv d ts fs s)))
    (ap (λ k. nodes inv d (suc p) (base + k) (halves ts)) c
    ∙ nodes-traced inv d (suc p) (base + differing ls) (halves ts) gs (fresh-next inv d ts fs s))
    ∙ ap (traced_nodes inv p base) (sym (trace-lower inv d gs))

counts-traced : (inv : Bool) (d : ℕ) (ts : List (Tree Bool d)) (fs : List (Tree Row d)) → fresh inv [] ts ≡ below inv d fs
    → map differing (lower inv d fs) ≡ counts inv d ts
unfolding counts
counts-traced inv zero ts fs s = refl
counts-traced inv (suc d) ts fs s =
    ap (map differing) (trace-lower inv d (next inv fs))
    ∙ ap₂ (λ (k : ℕ) (l : List ℕ). k ∷ l) (sym (count-level inv d ts fs s))
    (counts-traced inv d (halves ts) (next inv fs) (fresh-next inv d ts fs s))

roots-traced : (inv : Bool) (n : ℕ) (fs : List (Tree Row n))
    → map (link_ref (traced_refs inv 0 (lower inv n fs))) (links_of inv fs) ≡ map (refer inv n 0 (fill inv n fs)) (fill inv n fs)
roots-traced inv n fs =
    let ts = fill inv n fs in
    ap (λ (r : List ℕ). map (link_ref r) (links_of inv fs)) (sym (refs-traced inv n 0 ts fs (fresh-fill inv n fs)))
    ∙ sym (map-follow inv 0 ts (below inv n fs) (links_of inv fs) (links-valid inv n fs))
    ∙ ap (map (refer inv n 0 ts)) (sym (fill-below inv n fs))

pub traced : (inv : Bool) (n : ℕ) (fs : List (Tree Row n)) → traced_network inv (trace inv n fs) ≡ network inv n (fill inv n fs)
unfolding traced_network network
traced inv n fs =
    ap (traced_network inv) (trace-lower inv n fs)
    ∙ ap₂ diagram (sym (nodes-traced inv n 0 0 (fill inv n fs) fs (fresh-fill inv n fs))) (roots-traced inv n fs)

pub traced-counts : (inv : Bool) (n : ℕ) (fs : List (Tree Row n)) → traced_counts (trace inv n fs) ≡ counts inv n (fill inv n fs)
unfolding traced_counts
traced-counts inv n fs = ap traced_counts (trace-lower inv n fs) ∙ counts-traced inv n (fill inv n fs) fs (fresh-fill inv n fs)
