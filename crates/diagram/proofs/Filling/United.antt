-- An entry whose halves agree: its two links are one, so that it makes no node, and its filled function doesn't depend on its top variable.
-- Assumes nothing.
use mathlib.Core.Path.{◌≡◌, refl, sym, ap, ◌∙◌, subst}
use mathlib.Core.Bool.{Bool, true, false, not}
use mathlib.Core.List.{List, [], ◌∷◌}
use Prim.Native.Nat.{ℕ, zero, suc, ◌+◌, ◌*◌, ◌<◌}
use native.Mathlib.Nat.{le_of_suc-le-suc, not-suc-le-zero}
use native.Mathlib.Omega.{arith}
use lib.Dec.{T}
use lib.ListN.{length, get_or}
use Rattle.lists.proofs.Bools.{split, of_T}
use Rattle.diagram.specs.Tree.{Tree, node, half, pairs}
use Rattle.diagram.specs.Filling.Fill.{Row, Link, level, unites, candidates, two_each, fill}
use Rattle.diagram.specs.Networks.Network.{depends}
use Rattle.diagram.proofs.Tree.{same_self}
use Rattle.diagram.proofs.Filling.Evened.{next-fill}
use Rattle.diagram.proofs.Filling.Fill.{filled-length}

-- the places of the two of k

low-suc : (k : ℕ) → 2 * suc k ≡ suc (suc (2 * k))
low-suc k = omega arith

high-suc : (k : ℕ) → 2 * suc k + 1 ≡ suc (suc (2 * k + 1))
high-suc k = omega arith

get_or-pairs : {A : Type 0} {d : ℕ} (ts : List (Tree A d)) (k : ℕ) (t : Tree A (suc d)) (x : Tree A d) → k < length (pairs ts)
    → get_or (pairs ts) k t ≡ node (get_or ts (2 * k) x) (get_or ts (2 * k + 1) x)
get_or-pairs [] k t x h = absurd (not-suc-le-zero h)
get_or-pairs (l ∷ []) k t x h = absurd (not-suc-le-zero h)
get_or-pairs (l ∷ r ∷ ts) zero t x h = refl
get_or-pairs (l ∷ r ∷ ts) (suc k) t x h = rw (high-suc k, low-suc k) (get_or-pairs ts k t x (le_of_suc-le-suc h))

-- of a list with one for each candidate, made two an entry: the two of an entry whose halves agree are one and the same

module _ {A : Type 0} {d : ℕ} where
  two_none : (es : List (Tree Row (suc d))) → two_each {A = A} es [] ≡ []
  two_none [] = refl
  two_none (e ∷ es) = split (unites e) (λ u. rw u (two_none es)) (λ u. rw u (two_none es))

  two-alike : (es : List (Tree Row (suc d))) (xs : List A) (k : ℕ) (e₀ : Tree Row (suc d)) (x : A) → k < length es
      → T (unites (get_or es k e₀)) → get_or (two_each es xs) (2 * k) x ≡ get_or (two_each es xs) (2 * k + 1) x
  two-alike [] xs k e₀ x h t = absurd (not-suc-le-zero h)
  two-alike (e ∷ es) [] k e₀ x h t =
      subst (λ (l : List A). get_or l (2 * k) x ≡ get_or l (2 * k + 1) x) (sym (two_none (e ∷ es))) refl
  two-alike (e ∷ es) (y ∷ ys) zero e₀ x h t = let u : unites e ≡ true = of_T t in rw u
  two-alike (e ∷ es) (y ∷ []) (suc k) e₀ x h t =
      rw (high-suc k, low-suc k)
      (split (unites e) (λ u. rw u (two-alike es [] k e₀ x (le_of_suc-le-suc h) t)) (λ u. rw (u, two_none es)))
  two-alike (e ∷ es) (y ∷ z ∷ zs) (suc k) e₀ x h t =
      rw (high-suc k, low-suc k)
      (split (unites e) (λ u. rw u (two-alike es (z ∷ zs) k e₀ x (le_of_suc-le-suc h) t))
      (λ u. rw u (two-alike es zs k e₀ x (le_of_suc-le-suc h) t)))

module _ (inv : Bool) {d : ℕ} (es : List (Tree Row (suc d))) (k : ℕ) (e₀ : Tree Row (suc d)) (h : k < length es)
    (t : T (unites (get_or es k e₀))) where
  pub united-links : (x : Link)
      → get_or (two_each es (level inv [] (candidates es)).links) (2 * k) x
      ≡ get_or (two_each es (level inv [] (candidates es)).links) (2 * k + 1) x
  united-links x = two-alike es (level inv [] (candidates es)).links k e₀ x h t

  pub united-steady : (t₀ : Tree Bool (suc d)) → depends (get_or (pairs (two_each es (fill inv d (candidates es)))) k t₀) ≡ false
  united-steady t₀ =
      let ts = two_each es (fill inv d (candidates es)) in
      let n : length (pairs ts) ≡ length es = ap (λ l. length (pairs l)) (sym (next-fill inv d es)) ∙ filled-length inv es in
      let q = two-alike es (fill inv d (candidates es)) k e₀ (half false t₀) h t in
      ap depends (get_or-pairs ts k t₀ (half false t₀) (rw n h)) ∙ rw q (ap not (same_self (get_or ts (2 * k + 1) (half false t₀))))
