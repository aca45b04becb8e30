-- The value of a free row never matters: every step of the filling is the same where free rows have the value 0.
-- Assumes nothing.
use mathlib.Core.Path.{◌≡◌, refl, sym, ap, ap₂, ◌∙◌}
use mathlib.Core.Bool.{Bool, true, false, not, cond, beq, ◌&&◌, ◌||◌}
use mathlib.Core.List.{List, [], ◌∷◌, map}
use Prim.Native.Nat.{ℕ, zero, suc, ◌+◌, ◌*◌}
use Rattle.lists.specs.Bits.{flip}
use Rattle.lists.proofs.Bools.{split}
use Rattle.diagram.specs.Tree.{Tree, leaf, node, draw, half, halves, pairs}
use Rattle.diagram.specs.Filling.Fill.{Row, always, agree, merge, Link, Linked, Level, after}
use Rattle.diagram.specs.Filling.Fill.{then, along, candidate, level, follow, settled, fill}
use Rattle.diagram.specs.Filling.Fill.{unites, trace}
use Rattle.diagram.proofs.Filling.Evened.{evened, next_of}
use Rattle.diagram.proofs.Filling.Fill.{fill-zero, fill_suc, trace-zero, trace-suc}

-- a row whose value is 0 where it is free, and every row of a tree so
abbrev pub mask : Row → Row
mask r = record { value = r.care && r.value; care = r.care }

abbrev pub masked : {d : ℕ} → Tree Row d → Tree Row d
masked (leaf r) = leaf (mask r)
masked (node l h) = node (masked l) (masked h)

-- the tests and the merge, on one row and on all

always-bit : (v c x : Bool) → (not c || beq (c && x) v) ≡ (not c || beq x v)
always-bit v true x = refl
always-bit v false x = refl

agree-bit : (i c x d y : Bool) → (not (c && d) || beq (flip i (c && x)) (d && y)) ≡ (not (c && d) || beq (flip i x) y)
agree-bit i true x true y = refl
agree-bit i true x false y = refl
agree-bit i false x d y = refl

merge-bit : (i c x d y : Bool) → cond c (flip i (c && x)) (d && y) ≡ ((c || d) && cond c (flip i x) y)
merge-bit i true x d y = refl
merge-bit i false x d y = refl

always-masked : {d : ℕ} (v : Bool) (f : Tree Row d) → always v (masked f) ≡ always v f
always-masked v (leaf r) = always-bit v r.care r.value
always-masked v (node l h) = ap₂ ◌&&◌ (always-masked v l) (always-masked v h)

agree-masked : {d : ℕ} (i : Bool) (f g : Tree Row d) → agree i (masked f) (masked g) ≡ agree i f g
agree-masked i (leaf r) (leaf s) = agree-bit i r.care r.value s.care s.value
agree-masked i (node l h) (node l' h') = ap₂ ◌&&◌ (agree-masked i l l') (agree-masked i h h')

merge-masked : {d : ℕ} (i : Bool) (f g : Tree Row d) → merge i (masked f) (masked g) ≡ masked (merge i f g)
merge-masked i (leaf r) (leaf s) =
    ap (λ (b : Bool). leaf (record { value = b; care = r.care || s.care })) (merge-bit i r.care r.value s.care s.value)
merge-masked i (node l h) (node l' h') = ap₂ node (merge-masked i l l') (merge-masked i h h')

-- one candidate, and a level

abbrev masked_placed : {d : ℕ} → Linked d → Linked d
masked_placed p = record { entries = map masked p.entries; link = p.link }

abbrev pub masked_level : {d : ℕ} → Level d → Level d
masked_level l = record { entries = map masked l.entries; links = l.links }

along-masked : {d : ℕ} (inv : Bool) (k : ℕ) (f : Tree Row d) (gs : List (Tree Row d))
    → along inv k (masked f) (map masked gs) ≡ masked_placed (along inv k f gs)
along-masked inv k f [] = refl
along-masked {d} inv k f (g ∷ gs) =
    rw (agree-masked false f g, agree-masked true f g, merge-masked false f g, merge-masked true f g)
    (split (agree false f g) (λ e. rw e)
    (λ e. rw e
    (split (inv && agree true f g) (λ q. rw q)
    (λ q. rw q (ap (λ (p : Linked d). after (masked g) p) (along-masked inv (suc k) f gs))))))

candidate-masked : {d : ℕ} (inv : Bool) (f : Tree Row d) (gs : List (Tree Row d))
    → candidate inv (masked f) (map masked gs) ≡ masked_placed (candidate inv f gs)
candidate-masked inv f gs =
    rw (always-masked false f, always-masked true f)
    (split (always false f) (λ e. rw e) (λ e. rw e (split (always true f) (λ q. rw q) (λ q. rw q (along-masked inv 0 f gs)))))

pub level-masked : {d : ℕ} (inv : Bool) (gs fs : List (Tree Row d)) → level inv (map masked gs) (map masked fs) ≡ masked_level (level inv gs fs)
level-masked inv gs [] = refl
level-masked {d} inv gs (f ∷ fs) =
    rw (candidate-masked inv f gs)
    (ap (λ (l : Level d). then (candidate inv f gs).link l) (level-masked inv (candidate inv f gs).entries fs))

half-masked : {d : ℕ} (b : Bool) (t : Tree Row (suc d)) → half b (masked t) ≡ masked (half b t)
half-masked true (node l h) = refl
half-masked false (node l h) = refl

halves_masked : {d : ℕ} (ts : List (Tree Row (suc d))) → halves (map masked ts) ≡ map masked (halves ts)
halves_masked [] = refl
halves_masked {d} (t ∷ ts) =
    ap₂ (λ (x : Tree Row d × Tree Row d) (l : List (Tree Row d)). x.0 ∷ x.1 ∷ l)
    (λ i. (half-masked false t i, half-masked true t i)) (halves_masked ts)

-- the candidates of the next level

evened-masked : {d : ℕ} (t : Tree Row (suc d)) → evened (masked t) ≡ masked (evened t)
evened-masked (node l h) =
    rw (agree-masked false h l, merge-masked false h l) (split (unites (node l h)) (λ e. rw e) (λ e. rw e))

all-evened : {d : ℕ} (ts : List (Tree Row (suc d))) → map evened (map masked ts) ≡ map masked (map evened ts)
all-evened [] = refl
all-evened {d} (t ∷ ts) = ap₂ (λ (x : Tree Row (suc d)) (l : List (Tree Row (suc d))). x ∷ l) (evened-masked t) (all-evened ts)

pub next-masked : {d : ℕ} (ts : List (Tree Row (suc d))) → next_of (map masked ts) ≡ map masked (next_of ts)
next-masked ts = ap halves (all-evened ts) ∙ halves_masked (map evened ts)

-- all levels

settled-masked : (fs : List (Tree Row 0)) → map settled (map masked fs) ≡ map settled fs
settled-masked [] = refl
settled-masked (leaf r ∷ fs) = ap₂ (λ (x : Tree Bool 0) (l : List (Tree Bool 0)). x ∷ l) (one r.care r.value) (settled-masked fs)
  where
    one : (c v : Bool) → leaf (c && (c && v)) ≡ leaf (c && v)
    one true v = refl
    one false v = refl

pub fill-masked : (inv : Bool) (d : ℕ) (fs : List (Tree Row d)) → fill inv d (map masked fs) ≡ fill inv d fs
fill-masked inv zero fs = fill-zero inv (map masked fs) ∙ settled-masked fs ∙ sym (fill-zero inv fs)
fill-masked inv (suc d) fs =
    let es = (level inv [] fs).entries in
    fill_suc inv d (map masked fs)
    ∙ ap (λ (l : Level (suc d)). map (follow (pairs (fill inv d (next_of l.entries)))) l.links) (level-masked inv [] fs)
    ∙ ap (λ (ts : List (Tree Bool d)). map (follow (pairs ts)) (level inv [] fs).links)
    (ap (fill inv d) (next-masked es) ∙ fill-masked inv d (next_of es))
    ∙ sym (fill_suc inv d fs)

pub trace-masked : (inv : Bool) (d : ℕ) (fs : List (Tree Row d)) → trace inv d (map masked fs) ≡ trace inv d fs
trace-masked inv zero fs =
    trace-zero inv (map masked fs) ∙ ap (λ (l : Level 0). l.links ∷ []) (level-masked inv [] fs) ∙ sym (trace-zero inv fs)
trace-masked inv (suc d) fs =
    let es = (level inv [] fs).entries in
    trace-suc inv d (map masked fs)
    ∙ ap (λ (l : Level (suc d)). l.links ∷ trace inv d (next_of l.entries)) (level-masked inv [] fs)
    ∙ ap (λ (kss : List (List Link)). (level inv [] fs).links ∷ kss) (ap (trace inv d) (next-masked es) ∙ trace-masked inv d (next_of es))
    ∙ sym (trace-suc inv d fs)

-- a drawn tree
pub draw-masked : (d : ℕ) (f g : ℕ → Row) (s : ℕ) → ((x : ℕ) → mask (f x) ≡ mask (g x)) → masked (draw d f s) ≡ masked (draw d g s)
draw-masked zero f g s e = ap leaf (e s)
draw-masked (suc d) f g s e = ap₂ node (draw-masked d f g (2 * s) e) (draw-masked d f g (2 * s + 1) e)
