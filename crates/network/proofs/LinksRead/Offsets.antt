-- Where the links of a level begin and how many nodes stand above it: sums over the levels above.
-- Assumes nothing.
use mathlib.Core.Path.{◌≡◌, ap, ◌∙◌, subst}
use mathlib.Core.List.{List}
use Prim.Native.Nat.{ℕ, zero, suc, ◌+◌, ◌*◌, ◌-◌, ◌≤◌, ◌<◌}
use native.Mathlib.Nat.{le_refl, add-zero, add-suc}
use native.Mathlib.Numerals.{add-one}
use native.Mathlib.Omega.{arith}
use lib.ListN.{get_or}
use Rattle.lists.specs.Sums.{sum_below}
use Rattle.fill.specs.Work.{links_at}
use Rattle.network.specs.Levels.{level_at}

pub sum_more : (f : ℕ → ℕ) (p : ℕ) → sum_below f (p + 1) ≡ sum_below f p + f p
sum_more f p = rw add-one

sum-rises : (f : ℕ → ℕ) (p k : ℕ) → sum_below f p + f p ≤ sum_below f (p + 1 + k)
sum-rises f p zero = rw (add-zero (p + 1), add-one) (le_refl (sum_below f p + f p))
sum-rises f p (suc k) = rw (add-suc (p + 1) k) (omega (arith, sum-rises f p k))

pub sum_below-part : (f : ℕ → ℕ) (p n : ℕ) → p < n → sum_below f p + f p ≤ sum_below f n
sum_below-part f p n h =
    let k : p + 1 + (n - (p + 1)) ≡ n = omega arith in
    subst (λ x. sum_below f p + f p ≤ sum_below f x) k (sum-rises f p (n - (p + 1)))

sum-upto : (f : ℕ → ℕ) (p k : ℕ) → sum_below f p ≤ sum_below f (p + k)
sum-upto f p zero = rw (add-zero p) (le_refl (sum_below f p))
sum-upto f p (suc k) = rw (add-suc p k) (omega (arith, sum-upto f p k))

pub first-at : (m : ℕ) (entries : List ℕ) → level_at m entries 0 ≡ links_at + 2 * m
first-at m entries = omega arith

pub next-at : (m : ℕ) (entries : List ℕ) (p : ℕ) → level_at m entries (p + 1) ≡ level_at m entries p + 4 * get_or entries p 0
next-at m entries p = omega (arith, sum_more (λ q. get_or entries q 0) p)

pub within : (m : ℕ) (entries : List ℕ) (p n : ℕ) → p < n → level_at m entries p + 4 * get_or entries p 0 ≤ level_at m entries n
within m entries p n h = omega (arith, sum_below-part (λ q. get_or entries q 0) p n h)

-- from a level to the one above it
module _ (p q : ℕ) (a : p ≡ q + 1) where
  pub sum-above : (f : ℕ → ℕ) → sum_below f p ≡ sum_below f q + f q
  sum-above f = ap (sum_below f) a ∙ sum_more f q

  pub at_above : (m : ℕ) (entries : List ℕ) → level_at m entries p ≡ level_at m entries q + 4 * get_or entries q 0
  at_above m entries = ap (level_at m entries) a ∙ next-at m entries q

pub at-rises : (m : ℕ) (entries : List ℕ) (p n : ℕ) → p ≤ n → level_at m entries p ≤ level_at m entries n
at-rises m entries p n h =
    let k : p + (n - p) ≡ n = omega arith in
    subst (λ x. level_at m entries p ≤ level_at m entries x) k (omega (arith, sum-upto (λ q. get_or entries q 0) p (n - p)))
