-- What document 02's 2.6 leaves as it was: the filling, the links and the network of a table with every row cared.
-- Fully cared halves that agree are equal, so to unite them changes nothing; and fully cared candidates make fully cared entries.
-- Assumes nothing.
use mathlib.Core.Path.{◌≡◌, refl, sym, ap, ap₂, ◌∙◌, subst}
use mathlib.Core.Bool.{Bool, false, ◌&&◌}
use mathlib.Core.List.{List, [], ◌∷◌, map}
use Prim.Native.Nat.{ℕ, zero, suc, ◌+◌, ◌*◌}
use lib.Dec.{T}
use Rattle.lists.specs.Lists.{all, up_to}
use Rattle.lists.proofs.Bools.{split, of_T, to-T, and_T, and_l, and_r, or_r}
use Rattle.lists.proofs.Lists.Membership.{all-mapped}
use Rattle.lists.proofs.Numbers.Compared.{all-up_to-of}
use Rattle.diagram.specs.Tree.{Tree, leaf, node, draw, halves, pairs}
use Rattle.diagram.specs.Filling.Fill.{Row, agree, merge, Link, candidate, level, unites, follow, fill, trace}
use Rattle.diagram.specs.Filling.Halves.{cared, fill_halves, trace_halves}
use Rattle.diagram.specs.Networks.Network.{network}
use Rattle.diagram.specs.Orders.Order.{behind}
use Rattle.diagram.specs.Table.{Table, FullyCared, reordered, filled, network_of}
use Rattle.diagram.proofs.Filling.Merge.{where_to, Within, within-refl, within-merge}
use Rattle.diagram.proofs.Filling.Evened.{evened, next_of}
use Rattle.diagram.proofs.Filling.Fill.{fill-zero, fill_suc, trace-zero, trace-suc}
use Rattle.diagram.proofs.Filling.Fill.{Along, new, met, next, Joined, fixed, linked, candidate-view}
use Rattle.diagram.proofs.Orders.Order.{behind-lt}

-- where both are fully cared, what agrees is equal

cared-equal : {d : ℕ} (f g : Tree Row d) → T (cared f) → T (cared g) → T (agree false f g) → f ≡ g
cared-equal (leaf r) (leaf s) c e t =
    ap₂ (λ v b. leaf (record { value = v; care = b }))
    (where_to (r.care && s.care) r.value s.value t (and_T r.care s.care c e)) (of_T c ∙ sym (of_T e))
cared-equal (node l h) (node l' h') c e t =
    ap₂ node
    (cared-equal l l' (and_l (cared l) (cared h) c) (and_l (cared l') (cared h') e) (and_l (agree false l l') (agree false h h') t))
    (cared-equal h h' (and_r (cared l) (cared h) c) (and_r (cared l') (cared h') e) (and_r (agree false l l') (agree false h h') t))

cared-evened : {d : ℕ} (e : Tree Row (suc d)) → T (cared e) → evened e ≡ e
cared-evened (node l h) c =
    split (unites (node l h))
    (λ u. rw u
    (let q = cared-equal h l (and_r (cared l) (cared h) c) (and_l (cared l) (cared h) c) (to-T u) in
    let m = within-merge false h l (subst (λ x. Within false h x) q (within-refl h)) in
    ap₂ node m (m ∙ sym q)))
    (λ u. rw u)

cared-next : {d : ℕ} (es : List (Tree Row (suc d))) → T (all cared es) → next_of es ≡ halves es
cared-next es c = ap halves (each es c)
  where
    each : {d : ℕ} (es : List (Tree Row (suc d))) → T (all cared es) → map evened es ≡ es
    each [] c = refl
    each (e ∷ es) c =
        ap₂ (λ (x : Tree Row _) (l : List (Tree Row _)). x ∷ l) (cared-evened e (and_l (cared e) (all cared es) c))
        (each es (and_r (cared e) (all cared es) c))

-- the halves of fully cared entries are, and the entries of fully cared candidates

cared-halves : {d : ℕ} (es : List (Tree Row (suc d))) → T (all cared es) → T (all cared (halves es))
cared-halves [] c = tt
cared-halves (node l h ∷ es) c =
    let b = and_l (cared l && cared h) (all cared es) c in
    and_T (cared l) (cared h && all cared (halves es)) (and_l (cared l) (cared h) b)
    (and_T (cared h) (all cared (halves es)) (and_r (cared l) (cared h) b)
    (cared-halves es (and_r (cared l && cared h) (all cared es) c)))

cared-merge : {d : ℕ} (i : Bool) (f g : Tree Row d) → T (cared g) → T (cared (merge i f g))
cared-merge i (leaf r) (leaf s) c = or_r r.care s.care c
cared-merge i (node l h) (node l' h') c =
    and_T (cared (merge i l l')) (cared (merge i h h')) (cared-merge i l l' (and_l (cared l') (cared h') c))
    (cared-merge i h h' (and_r (cared l') (cared h') c))

cared-along : {d : ℕ} {inv : Bool} {f : Tree Row d} {gs es : List (Tree Row d)} {k : ℕ} {i : Bool} → Along inv f gs k i es →
    T (cared f) → T (all cared gs) → T (all cared es)
cared-along {f} new c a = and_T (cared f) _ c tt
cared-along {f} (met {g = g} {gs = gs} i t m) c a =
    and_T (cared (merge i f g)) (all cared gs) (cared-merge i f g (and_l (cared g) (all cared gs) a)) (and_r (cared g) (all cared gs) a)
cared-along (next {g = g} {gs = gs} {es = es} n r) c a =
    and_T (cared g) (all cared es) (and_l (cared g) (all cared gs) a) (cared-along r c (and_r (cared g) (all cared gs) a))

cared-joined : {d : ℕ} {inv : Bool} {f : Tree Row d} {gs es : List (Tree Row d)} {l : Link} → Joined inv f gs l es →
    T (cared f) → T (all cared gs) → T (all cared es)
cared-joined (fixed v t) c a = a
cared-joined (linked n r) c a = cared-along r c a

cared-level : {d : ℕ} (inv : Bool) (gs fs : List (Tree Row d)) → T (all cared gs) → T (all cared fs)
    → T (all cared (level inv gs fs).entries)
cared-level inv gs [] a c = a
cared-level inv gs (f ∷ fs) a c =
    cared-level inv (candidate inv f gs).entries fs
    (cared-joined (candidate-view inv f gs) (and_l (cared f) (all cared fs) c) a) (and_r (cared f) (all cared fs) c)

-- so the filling goes as it did

pub cared-fill : (inv : Bool) (d : ℕ) (fs : List (Tree Row d)) → T (all cared fs) → fill inv d fs ≡ fill_halves inv d fs
unfolding fill_halves
cared-fill inv zero fs c = fill-zero inv fs
cared-fill inv (suc d) fs c =
    let es = (level inv [] fs).entries in
    let e = cared-level inv [] fs tt c in
    fill_suc inv d fs
    ∙ ap (λ E. map (follow (pairs E)) (level inv [] fs).links)
    (ap (fill inv d) (cared-next es e) ∙ cared-fill inv d (halves es) (cared-halves es e))

pub cared-trace : (inv : Bool) (d : ℕ) (fs : List (Tree Row d)) → T (all cared fs) → trace inv d fs ≡ trace_halves inv d fs
unfolding trace_halves
cared-trace inv zero fs c = trace-zero inv fs
cared-trace inv (suc d) fs c =
    let es = (level inv [] fs).entries in
    let e = cared-level inv [] fs tt c in
    trace-suc inv d fs
    ∙ ap (λ (l : List (List Link)). (level inv [] fs).links ∷ l)
    (ap (trace inv d) (cared-next es e) ∙ cared-trace inv d (halves es) (cared-halves es e))

-- and so does a table's network, under any order

cared-draw : (d : ℕ) (f : ℕ → Row) (s : ℕ) → ((r : ℕ) → T (f r).care) → T (cared (draw d f s))
cared-draw zero f s c = c s
cared-draw (suc d) f s c =
    and_T (cared (draw d f (2 * s))) (cared (draw d f (2 * s + 1))) (cared-draw d f (2 * s) c) (cared-draw d f (2 * s + 1) c)

pub cared-network : (inv : Bool) (t : Table) (order : List ℕ) → FullyCared t
    → network_of inv t order ≡ network inv t.n (fill_halves inv t.n (map (reordered t order) (up_to t.m)))
unfolding network_of filled
cared-network inv t order c =
    ap (network inv t.n)
    (cared-fill inv t.n (map (reordered t order) (up_to t.m))
    (rw all-mapped
    (all-up_to-of (λ j. cared (reordered t order j)) t.m
    (λ j h. cared-draw t.n (λ s. t.row j (behind t.n order s)) 0 (λ r. c j (behind t.n order r) h (behind-lt t.n order r))))))
