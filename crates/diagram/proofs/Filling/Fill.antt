-- Basic laws of the filling: its equations, what one candidate does to the entries, lengths, pairs and halves, and the links.
-- Assumes nothing.
use mathlib.Core.Path.{◌≡◌, refl, sym, ap, ◌∙◌, subst}
use mathlib.Core.Bool.{Bool, true, false, not, ◌&&◌, ◌||◌}
use mathlib.Core.List.{List, [], ◌∷◌, map}
use Prim.Native.Nat.{ℕ, zero, suc, ◌+◌, ◌*◌}
use native.Mathlib.Nat.{zero-add, add-zero}
use native.Mathlib.Omega.{arith}
use lib.Dec.{T}
use lib.ListN.{length, length-map}
use Rattle.lists.proofs.Bools.{split, to-T, and_l, and_r}
use Rattle.diagram.specs.Tree.{Tree, halves, pairs}
use Rattle.diagram.specs.Filling.Fill.{Row, always, agree, merge, Link, const, entry, along, candidate, level}
use Rattle.diagram.specs.Filling.Fill.{follow, settled, fill, links_under, trace}
use Rattle.diagram.proofs.Filling.Evened.{next_of, length-next, next-entries, next-links, next-fill}

-- the equations, by the next level's candidates two an entry

pub fill-zero : (inv : Bool) (fs : List (Tree Row zero)) → fill inv zero fs ≡ map settled fs
unfolding fill
fill-zero inv fs = refl

pub fill_suc : (inv : Bool) (d : ℕ) (fs : List (Tree Row (suc d))) →
    fill inv (suc d) fs ≡ map (follow (pairs (fill inv d (next_of (level inv [] fs).entries)))) (level inv [] fs).links
unfolding fill
fill_suc inv d fs =
    ap (λ E. map (follow (pairs E)) (level inv [] fs).links) (sym (next-fill inv d (level inv [] fs).entries))

pub trace-zero : (inv : Bool) (fs : List (Tree Row zero)) → trace inv zero fs ≡ (level inv [] fs).links ∷ []
unfolding trace links_under
trace-zero inv fs = refl

pub trace-suc : (inv : Bool) (d : ℕ) (fs : List (Tree Row (suc d))) →
    trace inv (suc d) fs ≡ (level inv [] fs).links ∷ trace inv d (next_of (level inv [] fs).entries)
unfolding trace links_under
trace-suc inv d fs = let es = (level inv [] fs).entries in rw (next-entries inv [] es, next-links inv [] es)

-- one candidate, along the entries: it is a new last entry, or it agrees with an entry and is merged with it,
-- or it agrees with the first neither plain nor inverted and goes on. The number is its entry's.
pub data Along {d : ℕ} (inv : Bool) (f : Tree Row d) : List (Tree Row d) → ℕ → Bool → List (Tree Row d) → Type 0 where
  new : Along inv f [] zero false (f ∷ [])
  met : {g : Tree Row d} {gs : List (Tree Row d)} (i : Bool) → T (not i || inv) → T (agree i f g)
      → Along inv f (g ∷ gs) zero i (merge i f g ∷ gs)
  next : {g : Tree Row d} {gs es : List (Tree Row d)} {k : ℕ} {i : Bool} → ((j : Bool) → agree (inv && j) f g ≡ false) →
      Along inv f gs k i es → Along inv f (g ∷ gs) (suc k) i (g ∷ es)

no-match : (inv : Bool) (a : Bool → Bool) → a false ≡ false → (inv && a true) ≡ false → (j : Bool) → a (inv && j) ≡ false
no-match false a e q j = e
no-match true a e q false = e
no-match true a e q true = q

pub along-view : {d : ℕ} (inv : Bool) (n : ℕ) (f : Tree Row d) (gs : List (Tree Row d)) →
    (k : ℕ) × (i : Bool) × Along inv f gs k i (along inv n f gs).entries × ((along inv n f gs).link ≡ entry (n + k) i)
along-view inv n f [] = (zero, false, new, ap (λ m. entry m false) (sym (add-zero n)))
along-view inv n f (g ∷ gs) =
    split (agree false f g)
    (λ e. rw e (zero, false, met false tt (to-T e), ap (λ m. entry m false) (sym (add-zero n))))
    (λ e. rw e
    (split (inv && agree true f g)
    (λ q. rw q (
      zero,
      true,
      met true (and_l inv (agree true f g) (to-T q)) (and_r inv (agree true f g) (to-T q)),
      ap (λ m. entry m true) (sym (add-zero n)),
    ))
    (λ q. rw q (let r = along-view inv (suc n) f gs in
    (suc r.0, r.1, next (no-match inv (λ j. agree j f g) e q) r.2, r.3 ∙ ap (λ m. entry m r.1) (omega arith))))))

-- one candidate: it ends in a constant that it is on all its cared rows, or it is none and goes along the entries
pub data Joined {d : ℕ} (inv : Bool) (f : Tree Row d) (gs : List (Tree Row d)) : Link → List (Tree Row d) → Type 0 where
  fixed : (v : Bool) → T (always v f) → Joined inv f gs (const v) gs
  linked : {k : ℕ} {i : Bool} {es : List (Tree Row d)} → ((v : Bool) → always v f ≡ false) → Along inv f gs k i es
      → Joined inv f gs (entry k i) es

neither : (a : Bool → Bool) → a false ≡ false → a true ≡ false → (v : Bool) → a v ≡ false
neither a e q false = e
neither a e q true = q

pub candidate-view : {d : ℕ} (inv : Bool) (f : Tree Row d) (gs : List (Tree Row d)) →
    Joined inv f gs (candidate inv f gs).link (candidate inv f gs).entries
candidate-view inv f gs =
    split (always false f) (λ e. rw e (fixed false (to-T e)))
    (λ e. rw e
    (split (always true f) (λ q. rw q (fixed true (to-T q)))
    (λ q. rw q (let r = along-view inv 0 f gs in
    subst (λ l. Joined inv f gs l (along inv 0 f gs).entries) (sym (r.3 ∙ ap (λ m. entry m r.1) (zero-add r.0)))
    (linked (neither (λ v. always v f) e q) r.2)))))

-- lengths

pub links-length : {d : ℕ} (inv : Bool) (gs fs : List (Tree Row d)) → length (level inv gs fs).links ≡ length fs
links-length inv gs [] = refl
links-length inv gs (f ∷ fs) = ap suc (links-length inv (candidate inv f gs).entries fs)

pub fill-length : (inv : Bool) (d : ℕ) (fs : List (Tree Row d)) → length (fill inv d fs) ≡ length fs
fill-length inv zero fs = rw fill-zero (length-map fs settled)
fill-length inv (suc d) fs = rw fill_suc (length-map (level inv [] fs).links _ ∙ links-length inv [] fs)

-- pairs and halves

pub halves_pairs : {A : Type 0} {d : ℕ} (k : ℕ) (ts : List (Tree A d)) → length ts ≡ 2 * k
    → (halves (pairs ts) ≡ ts) × (length (pairs ts) ≡ k)
halves_pairs k [] e = (refl, omega arith)
halves_pairs k (l ∷ []) e = absurd (omega arith)
halves_pairs zero (l ∷ h ∷ ts) e = absurd (omega arith)
halves_pairs (suc k) (l ∷ h ∷ ts) e =
    let r = halves_pairs k ts (omega arith) in
    (ap (λ (s : List (Tree _ _)). l ∷ h ∷ s) r.0, ap suc r.1)

-- a level's filled entries: E = pairs (fill inv d (next_of es)) for the finished entries es
module _ (inv : Bool) {d : ℕ} (es : List (Tree Row (suc d))) where
  even : length (fill inv d (next_of es)) ≡ 2 * length es
  even = fill-length inv d (next_of es) ∙ length-next es

  pub halves-filled : halves (pairs (fill inv d (next_of es))) ≡ fill inv d (next_of es)
  halves-filled = (halves_pairs (length es) (fill inv d (next_of es)) even).0

  pub filled-length : length (pairs (fill inv d (next_of es))) ≡ length es
  filled-length = (halves_pairs (length es) (fill inv d (next_of es)) even).1
