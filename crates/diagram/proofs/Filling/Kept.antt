-- The filled functions agree with the candidates on their cared rows.
-- Assumes nothing.
use mathlib.Core.Path.{◌≡◌, refl, sym, ap, ◌∙◌}
use mathlib.Core.Bool.{Bool, true, false, cond, ◌&&◌}
use mathlib.Core.List.{List, [], ◌∷◌, map}
use Prim.Native.Nat.{ℕ, zero, suc, ◌<◌}
use native.Mathlib.Nat.{le_of_suc-le-suc, not-suc-le-zero}
use lib.Dec.{T}
use lib.ListN.{length, get_or}
use Rattle.lists.specs.Bits.{flip}
use Rattle.lists.proofs.Bools.{and_l, and_r, flip-flip}
use Rattle.diagram.specs.Tree.{Tree, leaf, node, half, at, full, pairs, inverted}
use Rattle.diagram.specs.Filling.Fill.{Row, always, merge, Link, const, entry, candidate, level, follow, settled, fill}
use Rattle.diagram.proofs.Tree.{inverted-false}
use Rattle.diagram.proofs.Filling.Merge.{where_to, Within, within-refl, within-trans, merge-first, merge-second}
use Rattle.diagram.proofs.Filling.Evened.{evened, next_of, within-evened}
use Rattle.diagram.proofs.Filling.Fill.{fill-zero, fill_suc, Along, new, met, next, Joined, fixed, linked, candidate-view}

-- t has f's value at each row where f is cared
abbrev pub Keeps : {d : ℕ} → Tree Row d → Tree Bool d → Type 0
Keeps (leaf r) (leaf b) = T r.care → b ≡ r.value
Keeps (node l h) (node l' h') = Keeps l l' × Keeps h h'

pub keeps-at : {d : ℕ} (f : Tree Row d) (t : Tree Bool d) → Keeps f t →
    (p : ℕ) (a : ℕ → Bool) → T (at p a f).care → at p a t ≡ (at p a f).value
keeps-at (leaf r) (leaf b) k p a c = k c
keeps-at (node l h) (node l' h') k p a c = step (a p) (keeps-at l l' k.0 (suc p) a) (keeps-at h h' k.1 (suc p) a) c
  where
    step : (b : Bool) → (T (at (suc p) a l).care → at (suc p) a l' ≡ (at (suc p) a l).value) →
        (T (at (suc p) a h).care → at (suc p) a h' ≡ (at (suc p) a h).value) →
        T (cond b (at (suc p) a h) (at (suc p) a l)).care →
        cond b (at (suc p) a h') (at (suc p) a l') ≡ (cond b (at (suc p) a h) (at (suc p) a l)).value
    step true kl kh c = kh c
    step false kl kh c = kl c

-- lists, one by one
abbrev pub KeepsAll : {d : ℕ} → List (Tree Row d) → List (Tree Bool d) → Type 0
KeepsAll [] [] = Unit {0}
KeepsAll [] (t ∷ ts) = ⊥
KeepsAll (f ∷ fs) [] = ⊥
KeepsAll (f ∷ fs) (t ∷ ts) = Keeps f t × KeepsAll fs ts

pub keeps-get_or : {d : ℕ} (fs : List (Tree Row d)) (ts : List (Tree Bool d)) → KeepsAll fs ts →
    (i : ℕ) (f₀ : Tree Row d) (t₀ : Tree Bool d) → i < length fs → Keeps (get_or fs i f₀) (get_or ts i t₀)
keeps-get_or [] ts k i f₀ t₀ h = absurd (not-suc-le-zero h)
keeps-get_or (f ∷ fs) [] k i f₀ t₀ h = absurd k
keeps-get_or (f ∷ fs) (t ∷ ts) k zero f₀ t₀ h = k.0
keeps-get_or (f ∷ fs) (t ∷ ts) k (suc i) f₀ t₀ h = keeps-get_or fs ts k.1 i f₀ t₀ (le_of_suc-le-suc h)

-- f's cared rows stand, inverted where i is true, in entry number k
abbrev Stands : {d : ℕ} → Bool → Tree Row d → List (Tree Row d) → ℕ → Type 0
Stands i f [] k = ⊥
Stands i f (e ∷ es) zero = Within i f e
Stands i f (e ∷ es) (suc k) = Stands i f es k

-- f ends in what the link says
abbrev Links : {d : ℕ} → Tree Row d → List (Tree Row d) → Link → Type 0
Links f es (const v) = T (always v f)
Links f es (entry k i) = Stands i f es k

-- While a level is under way each earlier candidate's cared rows stand in the entry that it is linked to:
-- a candidate stands in its entry, and what stood in an entry stands there after a merge.

along-stands : {d : ℕ} {inv : Bool} {f : Tree Row d} {gs es : List (Tree Row d)} {k : ℕ} {i : Bool} → Along inv f gs k i es
    → Stands i f es k
along-stands {f} new = within-refl f
along-stands {f} (met {g = g} i t a) = merge-first i f g
along-stands (next n r) = along-stands r

along-still : {d : ℕ} {inv : Bool} {f : Tree Row d} {gs es : List (Tree Row d)} {k : ℕ} {i : Bool} → Along inv f gs k i es →
    (j : Bool) (x : Tree Row d) (m : ℕ) → Stands j x gs m → Stands j x es m
along-still new j x m s = absurd s
along-still {f} (met {g = g} i t a) j x zero s = within-trans j x g (merge i f g) s (merge-second i f g a)
along-still (met i t a) j x (suc m) s = s
along-still (next n r) j x zero s = s
along-still (next n r) j x (suc m) s = along-still r j x m s

linked-still : {d : ℕ} {inv : Bool} {f : Tree Row d} {gs es : List (Tree Row d)} {l : Link} → Joined inv f gs l es →
    (x : Tree Row d) (q : Link) → Links x gs q → Links x es q
linked-still (fixed v t) x q s = s
linked-still (linked n r) x (const v) s = s
linked-still (linked n r) x (entry m j) s = along-still r j x m s

joined-linked : {d : ℕ} {inv : Bool} {f : Tree Row d} {gs es : List (Tree Row d)} {l : Link} → Joined inv f gs l es
    → Links f es l
joined-linked (fixed v t) = t
joined-linked (linked n r) = along-stands r

level-still : {d : ℕ} (inv : Bool) (gs fs : List (Tree Row d)) (x : Tree Row d) (q : Link) → Links x gs q
    → Links x (level inv gs fs).entries q
level-still inv gs [] x q s = s
level-still inv gs (f ∷ fs) x q s = level-still inv (candidate inv f gs).entries fs x q (linked-still (candidate-view inv f gs) x q s)

-- read back through a link, the filled entries keep what is linked

keeps-full : {d : ℕ} (v : Bool) (f : Tree Row d) → T (always v f) → Keeps f (full v d)
keeps-full v (leaf r) t = λ c. sym (where_to r.care r.value v t c)
keeps-full v (node l h) t = (keeps-full v l (and_l (always v l) (always v h) t), keeps-full v h (and_r (always v l) (always v h) t))

keeps-inverted : {d : ℕ} (i : Bool) (f e : Tree Row d) (t : Tree Bool d) → Within i f e → Keeps e t → Keeps f (inverted i t)
keeps-inverted i (leaf r) (leaf s) (leaf b) m k = λ c. ap (flip i) (k (m c).0 ∙ (m c).1) ∙ flip-flip i r.value
keeps-inverted i (node l h) (node l' h') (node l'' h'') m k = (keeps-inverted i l l' l'' m.0 k.0, keeps-inverted i h h' h'' m.1 k.1)

stands-keeps : {d : ℕ} (i : Bool) (f : Tree Row d) (es : List (Tree Row d)) (ts : List (Tree Bool d)) (k : ℕ) (t₀ : Tree Bool d) →
    Stands i f es k → KeepsAll es ts → Keeps f (inverted i (get_or ts k t₀))
stands-keeps i f [] ts k t₀ s a = absurd s
stands-keeps i f (e ∷ es) [] k t₀ s a = absurd a
stands-keeps i f (e ∷ es) (t ∷ ts) zero t₀ s a = keeps-inverted i f e t s a.0
stands-keeps i f (e ∷ es) (t ∷ ts) (suc k) t₀ s a = stands-keeps i f es ts k t₀ s a.1

follow-keeps : {d : ℕ} (f : Tree Row d) (es : List (Tree Row d)) (ts : List (Tree Bool d)) (q : Link) →
    Links f es q → KeepsAll es ts → Keeps f (follow ts q)
follow-keeps f es ts (const v) s a = keeps-full v f s
follow-keeps {d} f es ts (entry k i) s a = stands-keeps i f es ts k (full false d) s a

level-keeps : {d : ℕ} (inv : Bool) (gs fs : List (Tree Row d)) (ts : List (Tree Bool d))
    → KeepsAll (level inv gs fs).entries ts →
    KeepsAll fs (map (follow ts) (level inv gs fs).links)
level-keeps inv gs [] ts a = tt
level-keeps inv gs (f ∷ fs) ts a = (
  follow-keeps f (level inv gs (f ∷ fs)).entries ts (candidate inv f gs).link
      (level-still inv (candidate inv f gs).entries fs f (candidate inv f gs).link (joined-linked (candidate-view inv f gs))) a,
  level-keeps inv (candidate inv f gs).entries fs ts a,
)

settled-keeps : (fs : List (Tree Row zero)) → KeepsAll fs (map settled fs)
settled-keeps [] = tt
settled-keeps (leaf r ∷ fs) = (step r.care r.value, settled-keeps fs)
  where
    step : (c v : Bool) → T c → (c && v) ≡ v
    step true v t = refl
    step false v t = absurd t

keeps-node : {d : ℕ} (e : Tree Row (suc d)) (l h : Tree Bool d) → Keeps (half false e) l → Keeps (half true e) h → Keeps e (node l h)
keeps-node (node a b) l h k m = (k, m)

-- what keeps the next level's candidates, two an entry, keeps the entries, whose cared rows stand in them
pub keeps-next : {d : ℕ} (es : List (Tree Row (suc d))) (ts : List (Tree Bool d)) → KeepsAll (next_of es) ts → KeepsAll es (pairs ts)
keeps-next [] [] k = tt
keeps-next [] (t ∷ ts) k = absurd k
keeps-next (e ∷ es) [] k = absurd k
keeps-next (e ∷ es) (l ∷ []) k = absurd k.1
keeps-next (e ∷ es) (l ∷ h ∷ ts) k = (
  rw inverted-false at
      (keeps-inverted false e (evened e) (node l h) (within-evened e) (keeps-node (evened e) l h k.0 k.1.0)),
  keeps-next es ts k.1.1,
)

-- by induction on the variables: the candidates of the next level are kept, so the finished entries are, so what is linked to them
pub keeps-fill : (inv : Bool) (d : ℕ) (fs : List (Tree Row d)) → KeepsAll fs (fill inv d fs)
keeps-fill inv zero fs = rw fill-zero (settled-keeps fs)
keeps-fill inv (suc d) fs =
    let es = (level inv [] fs).entries in
    rw fill_suc (level-keeps inv [] fs (pairs (fill inv d (next_of es)))
    (keeps-next es (fill inv d (next_of es)) (keeps-fill inv d (next_of es))))

pub kept-fill : (inv : Bool) (d : ℕ) (fs : List (Tree Row d)) (i : ℕ) (f₀ : Tree Row d) (t₀ : Tree Bool d) → i < length fs →
    Keeps (get_or fs i f₀) (get_or (fill inv d fs) i t₀)
kept-fill inv d fs i f₀ t₀ h = keeps-get_or fs (fill inv d fs) (keeps-fill inv d fs) i f₀ t₀ h

-- and so, row by row
pub kept_at : (inv : Bool) (d : ℕ) (fs : List (Tree Row d)) (i : ℕ) (f₀ : Tree Row d) (t₀ : Tree Bool d) → i < length fs →
    (p : ℕ) (a : ℕ → Bool) → T (at p a (get_or fs i f₀)).care → at p a (get_or (fill inv d fs) i t₀) ≡ (at p a (get_or fs i f₀)).value
kept_at inv d fs i f₀ t₀ h = keeps-at (get_or fs i f₀) (get_or (fill inv d fs) i t₀) (kept-fill inv d fs i f₀ t₀ h)
