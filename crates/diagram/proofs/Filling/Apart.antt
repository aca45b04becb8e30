-- Finished entries are apart: none is constant on its cared rows, no two agree, plain or inverted. So their filled functions vary and
-- differ.
-- Assumes nothing.
use mathlib.Core.Path.{◌≡◌, refl, sym, ap, ◌∙◌}
use mathlib.Core.Bool.{Bool, true, false, not, ◌&&◌}
use mathlib.Core.List.{List, [], ◌∷◌, map}
use Prim.Native.Nat.{ℕ, suc}
use lib.Dec.{T}
use Rattle.lists.specs.Lists.{all, has, distinct}
use Rattle.lists.specs.Bits.{flip}
use Rattle.lists.proofs.Bools.{split, to-T, to-not, absurd-T, and_T, and_l, and_r, beq→eq, flip-flip}
use Rattle.diagram.specs.Tree.{Tree, leaf, node, full, pairs, inverted, first, same}
use Rattle.diagram.specs.Filling.Fill.{Row, always, agree, merge, Link, candidate, level, fill}
use Rattle.diagram.specs.Networks.Network.{normal}
use Rattle.diagram.proofs.Tree.{varies}
use Rattle.diagram.proofs.Filling.Merge.{where-of, agree-sym, merge-differs, merge-varies}
use Rattle.diagram.proofs.Filling.Evened.{next_of}
use Rattle.diagram.proofs.Filling.Fill.{Along, new, met, next, Joined, fixed, linked, candidate-view}
use Rattle.diagram.proofs.Filling.Kept.{Keeps, KeepsAll, keeps-next, keeps-fill}

-- neither plain nor, where that is allowed, inverted is e as e' wherever both are cared
abbrev pub Differ : {d : ℕ} → Bool → Tree Row d → Tree Row d → Type 0
Differ inv e e' = (i : Bool) → agree (inv && i) e e' ≡ false

-- e differs from each of the entries
abbrev pub Against : {d : ℕ} → Bool → Tree Row d → List (Tree Row d) → Type 0
Against inv e [] = Unit {0}
Against inv e (g ∷ gs) = Differ inv e g × Against inv e gs

-- each entry is neither constant, and differs from those after it
abbrev pub Apart : {d : ℕ} → Bool → List (Tree Row d) → Type 0
Apart inv [] = Unit {0}
Apart inv (e ∷ es) = ((v : Bool) → always v e ≡ false) × Against inv e es × Apart inv es

differ-sym : {d : ℕ} (inv : Bool) (e g : Tree Row d) → Differ inv e g → Differ inv g e
differ-sym inv e g n i = agree-sym (inv && i) g e ∙ n i

-- a merge in g's place differs from what g differs from
differ-merge : {d : ℕ} (inv i : Bool) (f g x : Tree Row d) → T (agree i f g) → Differ inv x g → Differ inv x (merge i f g)
differ-merge inv i f g x t n j = merge-differs i f g t (inv && j) x (n j)

against-merge : {d : ℕ} (inv i : Bool) (f g : Tree Row d) (gs : List (Tree Row d)) → T (agree i f g) →
    Against inv g gs → Against inv (merge i f g) gs
against-merge inv i f g [] t a = tt
against-merge inv i f g (x ∷ gs) t a =
    (differ-sym inv x (merge i f g) (differ-merge inv i f g x t (differ-sym inv g x a.0)), against-merge inv i f g gs t a.1)

-- what differs from the candidate and from the entries differs from the entries after it
against-along : {d : ℕ} {inv : Bool} {f : Tree Row d} {gs es : List (Tree Row d)} {k : ℕ} {i : Bool} → Along inv f gs k i es →
    (x : Tree Row d) → Differ inv x f → Against inv x gs → Against inv x es
against-along new x n a = (n, tt)
against-along {inv} {f} (met {g = g} i c t) x n a = (differ-merge inv i f g x t a.0, a.1)
against-along (next m r) x n a = (a.0, against-along r x n a.1)

-- a candidate is appended only where it differs from every entry, and a merge conflicts where the entry did
apart-along : {d : ℕ} {inv : Bool} {f : Tree Row d} {gs es : List (Tree Row d)} {k : ℕ} {i : Bool} → Along inv f gs k i es →
    ((v : Bool) → always v f ≡ false) → Apart inv gs → Apart inv es
apart-along new n a = (n, tt, tt)
apart-along {inv} {f} (met {g = g} {gs = gs} i c t) n a =
    ((λ v. merge-varies i f g t v (a.0 v)), against-merge inv i f g gs t a.1, a.2)
apart-along {inv} {f} (next {g = g} m r) n a = (a.0, against-along r g (differ-sym inv f g m) a.1, apart-along r n a.2)

apart-joined : {d : ℕ} {inv : Bool} {f : Tree Row d} {gs es : List (Tree Row d)} {l : Link} → Joined inv f gs l es → Apart inv gs
    → Apart inv es
apart-joined (fixed v t) a = a
apart-joined (linked n r) a = apart-along r n a

apart_from : {d : ℕ} (inv : Bool) (gs fs : List (Tree Row d)) → Apart inv gs → Apart inv (level inv gs fs).entries
apart_from inv gs [] a = a
apart_from inv gs (f ∷ fs) a = apart_from inv (candidate inv f gs).entries fs (apart-joined (candidate-view inv f gs) a)

pub apart-level : {d : ℕ} (inv : Bool) (fs : List (Tree Row d)) → Apart inv (level inv [] fs).entries
apart-level inv fs = apart_from inv [] fs tt

-- what keeps an entry that is neither constant varies

keeps-always : {d : ℕ} (e : Tree Row d) (t : Tree Bool d) (v : Bool) → Keeps e t → T (same t (full v d)) → T (always v e)
keeps-always (leaf r) (leaf b) v k s = where-of r.care r.value v (λ c. sym (k c) ∙ beq→eq b v s)
keeps-always {d = suc d} (node l h) (node l' h') v k s =
    and_T (always v l) (always v h) (keeps-always l l' v k.0 (and_l (same l' (full v d)) (same h' (full v d)) s))
    (keeps-always h h' v k.1 (and_r (same l' (full v d)) (same h' (full v d)) s))

keeps-varies : {d : ℕ} (e : Tree Row d) (t : Tree Bool d) → Keeps e t → ((v : Bool) → always v e ≡ false) → T (varies t)
keeps-varies {d} e t k n =
    split (same t (full (first t) d)) (λ s. absurd-T (keeps-always e t (first t) k (to-T s)) (n (first t))) (λ s. to-not s)

all-vary : {d : ℕ} (inv : Bool) (es : List (Tree Row d)) (ts : List (Tree Bool d)) → KeepsAll es ts → Apart inv es
    → T (all varies ts)
all-vary inv [] [] k a = tt
all-vary inv [] (t ∷ ts) k a = absurd k
all-vary inv (e ∷ es) [] k a = absurd k
all-vary inv (e ∷ es) (t ∷ ts) k a = and_T (varies t) (all varies ts) (keeps-varies e t k.0 a.0) (all-vary inv es ts k.1 a.2)

-- two that keep entries which differ have two normal members

flip-out : (i j a b : Bool) → flip i a ≡ flip j b → flip (flip i j) a ≡ b
flip-out false j a b e = ap (flip j) e ∙ flip-flip j b
flip-out true false a b e = e
flip-out true true a b e = sym (flip-flip true a) ∙ ap not e ∙ flip-flip true b

keeps-agree : {d : ℕ} (i j : Bool) (e e' : Tree Row d) (t t' : Tree Bool d) → Keeps e t → Keeps e' t' →
    T (same (inverted i t) (inverted j t')) → T (agree (flip i j) e e')
keeps-agree i j (leaf r) (leaf s) (leaf b) (leaf b') k k' w =
    where-of (r.care && s.care) (flip (flip i j) r.value) s.value
    (λ c. let p = k (and_l r.care s.care c) in
    let p' = k' (and_r r.care s.care c) in
    rw (← p, ← p') (flip-out i j b b' (beq→eq (flip i b) (flip j b') w)))
keeps-agree i j (node l h) (node l' h') (node m n) (node m' n') k k' w =
    and_T (agree (flip i j) l l') (agree (flip i j) h h')
    (keeps-agree i j l l' m m' k.0 k'.0 (and_l (same (inverted i m) (inverted j m')) (same (inverted i n) (inverted j n')) w))
    (keeps-agree i j h h' n n' k.1 k'.1 (and_r (same (inverted i m) (inverted j m')) (same (inverted i n) (inverted j n')) w))

and-flip : (inv a b : Bool) → flip (inv && a) (inv && b) ≡ (inv && flip a b)
and-flip true a b = refl
and-flip false a b = refl

keeps-differ : {d : ℕ} (inv : Bool) (e e' : Tree Row d) (t t' : Tree Bool d) → Keeps e t → Keeps e' t' → Differ inv e e' →
    same (normal inv t) (normal inv t') ≡ false
keeps-differ inv e e' t t' k k' n =
    split (same (normal inv t) (normal inv t'))
    (λ w. absurd-T (rw and-flip at (keeps-agree (inv && first t) (inv && first t') e e' t t' k k' (to-T w)))
    (n (flip (first t) (first t'))))
    (λ w. w)

none-same : {d : ℕ} (inv : Bool) (e : Tree Row d) (t : Tree Bool d) (es : List (Tree Row d)) (ts : List (Tree Bool d)) →
    Keeps e t → KeepsAll es ts → Against inv e es → has same (normal inv t) (map (normal inv) ts) ≡ false
none-same inv e t [] [] k ks a = refl
none-same inv e t [] (t' ∷ ts) k ks a = absurd ks
none-same inv e t (e' ∷ es) [] k ks a = absurd ks
none-same inv e t (e' ∷ es) (t' ∷ ts) k ks a = rw (keeps-differ inv e e' t t' k ks.0 a.0) (none-same inv e t es ts k ks.1 a.1)

all-differ : {d : ℕ} (inv : Bool) (es : List (Tree Row d)) (ts : List (Tree Bool d)) → KeepsAll es ts → Apart inv es →
    T (distinct same (map (normal inv) ts))
all-differ inv [] [] k a = tt
all-differ inv [] (t ∷ ts) k a = absurd k
all-differ inv (e ∷ es) [] k a = absurd k
all-differ inv (e ∷ es) (t ∷ ts) k a =
    and_T (not (has same (normal inv t) (map (normal inv) ts))) (distinct same (map (normal inv) ts))
    (to-not (none-same inv e t es ts k.0 k.1 a.1)) (all-differ inv es ts k.1 a.2)

-- the filled entries of a level

pub filled_keeps : (inv : Bool) {d : ℕ} (es : List (Tree Row (suc d))) → KeepsAll es (pairs (fill inv d (next_of es)))
filled_keeps inv {d} es = keeps-next es (fill inv d (next_of es)) (keeps-fill inv d (next_of es))

pub apart-filled : (inv : Bool) (d : ℕ) (fs : List (Tree Row (suc d))) →
    T (distinct same (map (normal inv) (pairs (fill inv d (next_of (level inv [] fs).entries)))))
apart-filled inv d fs =
    let es = (level inv [] fs).entries in
    all-differ inv es (pairs (fill inv d (next_of es))) (filled_keeps inv es) (apart-level inv fs)

pub varied-filled : (inv : Bool) (d : ℕ) (fs : List (Tree Row (suc d))) →
    T (all varies (pairs (fill inv d (next_of (level inv [] fs).entries))))
varied-filled inv d fs =
    let es = (level inv [] fs).entries in
    all-vary inv es (pairs (fill inv d (next_of es))) (filled_keeps inv es) (apart-level inv fs)
