-- The filling with two candidates an entry: an entry whose halves agree gives the candidate that they become twice. By `level-twice` this
-- makes the same entries, and two an entry of the links and filled functions; so the laws of the filling go by these candidates (`next_of`).
-- Assumes nothing.
use mathlib.Core.Path.{◌≡◌, refl, sym, ap, ◌∙◌}
use mathlib.Core.Bool.{Bool, true, false, cond}
use mathlib.Core.List.{List, [], ◌∷◌, map}
use Prim.Native.Nat.{ℕ, zero, suc, ◌*◌}
use lib.ListN.{length, length-map}
use Rattle.lists.proofs.Bools.{split, to-T}
use Rattle.diagram.specs.Tree.{Tree, node, half, halves, pairs}
use Rattle.diagram.specs.Filling.Fill.{Row, Level, candidate, then, level, unites, united, candidates, two_each, follow, settled, fill}
use Rattle.diagram.proofs.Tree.{length-halves}
use Rattle.diagram.proofs.Filling.Merge.{Within, within-refl, merge-first, merge-second}
use Rattle.diagram.proofs.Filling.Twice.{level-twice}

-- an entry with both halves united where they agree
abbrev pub evened : {d : ℕ} → Tree Row (suc d) → Tree Row (suc d)
evened e = cond (unites e) (node (united e) (united e)) e

-- the candidates of the next level, two an entry
abbrev pub next_of : {d : ℕ} → List (Tree Row (suc d)) → List (Tree Row d)
next_of es = halves (map evened es)

pub length-next : {d : ℕ} (es : List (Tree Row (suc d))) → length (next_of es) ≡ 2 * length es
length-next es = length-halves (map evened es) ∙ ap (λ k. 2 * k) (length-map es evened)

-- the entry's cared rows stand there
pub within-evened : {d : ℕ} (e : Tree Row (suc d)) → Within false e (evened e)
within-evened (node l h) =
    split (unites (node l h)) (λ u. rw u (merge-second false h l (to-T u), merge-first false h l)) (λ u. rw u (within-refl (node l h)))

-- to make two an entry and to map are in either sequence the same
two-map : {A B : Type 0} {d : ℕ} (f : A → B) (es : List (Tree Row (suc d))) (xs : List A) → two_each es (map f xs) ≡ map f (two_each es xs)
two-map f [] xs = refl
two-map f (e ∷ es) [] = split (unites e) (λ u. rw u (two-map f es [])) (λ u. rw u (two-map f es []))
two-map {B = B} f (e ∷ es) (x ∷ []) =
    split (unites e) (λ u. rw u (ap (λ (l : List B). f x ∷ f x ∷ l) (two-map f es [])))
    (λ u. rw u (ap (λ (l : List B). f x ∷ l) (two-map f es [])))
two-map {B = B} f (e ∷ es) (x ∷ y ∷ xs) =
    split (unites e) (λ u. rw u (ap (λ (l : List B). f x ∷ f x ∷ l) (two-map f es (y ∷ xs))))
    (λ u. rw u (ap (λ (l : List B). f x ∷ f y ∷ l) (two-map f es xs)))

two-candidates : {d : ℕ} (es : List (Tree Row (suc d))) → two_each es (candidates es) ≡ next_of es
two-candidates [] = refl
two-candidates (e ∷ es) =
    split (unites e) (λ u. rw u (ap (λ (l : List (Tree Row _)). united e ∷ united e ∷ l) (two-candidates es)))
    (λ u. rw u (ap (λ (l : List (Tree Row _)). half false e ∷ half true e ∷ l) (two-candidates es)))

-- a level's entries, and its links made two an entry of those whose candidates it has
abbrev doubled : {d : ℕ} → List (Tree Row (suc d)) → Level d → Level d
doubled es l = record { entries = l.entries; links = two_each es l.links }

-- one entry at a time: the candidate that two halves become, placed twice, makes what it makes placed once, and its link twice
pub next_level : (inv : Bool) {d : ℕ} (gs : List (Tree Row d)) (es : List (Tree Row (suc d)))
    → level inv gs (next_of es) ≡ doubled es (level inv gs (candidates es))
next_level inv gs [] = refl
next_level inv gs (e ∷ es) =
    split (unites e)
    (λ u. rw u
    (let p = candidate inv (united e) gs in
    level-twice inv gs (united e) (next_of es) ∙ ap (λ l. then p.link (then p.link l)) (next_level inv p.entries es)))
    (λ u. rw u
    (let p = candidate inv (half false e) gs in
    let q = candidate inv (half true e) p.entries in
    ap (λ l. then p.link (then q.link l)) (next_level inv q.entries es)))

pub next-entries : (inv : Bool) {d : ℕ} (gs : List (Tree Row d)) (es : List (Tree Row (suc d)))
    → (level inv gs (next_of es)).entries ≡ (level inv gs (candidates es)).entries
next-entries inv gs es = ap (λ l. l.entries) (next_level inv gs es)

pub next-links : (inv : Bool) {d : ℕ} (gs : List (Tree Row d)) (es : List (Tree Row (suc d)))
    → (level inv gs (next_of es)).links ≡ two_each es (level inv gs (candidates es)).links
next-links inv gs es = ap (λ l. l.links) (next_level inv gs es)

-- the filled functions of a level: its links, read back through its filled entries
abbrev read_back : (inv : Bool) {d : ℕ} → Level (suc d) → List (Tree Bool (suc d))
read_back inv {d} l = map (follow (pairs (two_each l.entries (fill inv d (candidates l.entries))))) l.links

-- those of the candidates, two an entry
pub next-fill : (inv : Bool) (d : ℕ) (es : List (Tree Row (suc d))) → fill inv d (next_of es) ≡ two_each es (fill inv d (candidates es))
unfolding fill
next-fill inv zero es = ap (map settled) (sym (two-candidates es)) ∙ sym (two-map settled es (candidates es))
next-fill inv (suc d) es = ap (read_back inv) (next_level inv [] es) ∙ sym (two-map _ es (level inv [] (candidates es)).links)
