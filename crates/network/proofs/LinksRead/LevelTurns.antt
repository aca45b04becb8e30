-- The levels one after the other, from the lowest: what one more level makes of those below it.
-- Assumes nothing.
use mathlib.Core.Path.{◌≡◌, refl, ap, ap₂, ◌∙◌}
use mathlib.Core.List.{List}
use Prim.Native.Nat.{ℕ, zero, suc, ◌+◌, ◌-◌, ◌≤◌}
use native.Mathlib.Omega.{arith}
use lib.ListN.{length, get_or}
use Rattle.lists.specs.Sums.{sum_below}
use Rattle.network.specs.Levels.{Made, made, level_made, level_at, level_from, levels_made}
use Rattle.network.proofs.LinksRead.Entries.{level-work, level-cells}

module _ (m : ℕ) (entries counts : List ℕ) where
  abbrev L : ℕ → ℕ → Made → Made
  L = levels_made m entries counts

  pub levels-work : (p k : ℕ) (s : Made) → length (L p k s).work ≡ length s.work
  unfolding levels_made
  levels-work p zero s = refl
  levels-work p (suc k) s =
      level-work p (level_at m entries (suc p)) (level_at m entries p) (get_or entries p 0)
      (made (L (suc p) k s).work (L (suc p) k s).cells (sum_below (λ q. get_or counts q 0) p))
      ∙ levels-work (suc p) k s

  pub levels-cells : (p k : ℕ) (s : Made) → length (L p k s).cells ≡ length s.cells
  unfolding levels_made
  levels-cells p zero s = refl
  levels-cells p (suc k) s =
      level-cells p (level_at m entries (suc p)) (level_at m entries p) (get_or entries p 0)
      (made (L (suc p) k s).work (L (suc p) k s).cells (sum_below (λ q. get_or counts q 0) p))
      ∙ levels-cells (suc p) k s

  pub no-levels : (n : ℕ) (s : Made) → L n (n - n) s ≡ s
  unfolding levels_made
  no-levels n s = let z : n - n ≡ 0 = omega arith in rw z

  -- w and c are what the levels from p on, of n, make of s; level q is the one above
  module _ (n p q : ℕ) (s : Made) (w c : List ℕ) (a : p ≡ q + 1) (h : p ≤ n) (ew : w ≡ (L p (n - p) s).work)
      (ec : c ≡ (L p (n - p) s).cells) where
    one_more : level_from m entries counts q (made w c 0) ≡ L q (n - q) s
    unfolding levels_made
    one_more =
        let k : n - q ≡ suc (n - p) = omega arith in
        let a' : p ≡ suc q = omega arith in
        rw (ew, ec, k, a')

    pub turn_level : (i below base : ℕ) → i ≡ level_at m entries q → below ≡ level_at m entries p → base ≡ sum_below (λ r. get_or counts r 0) q
        → level_made q below i (get_or entries q 0) (made w c base) ≡ L q (n - q) s
    turn_level i below base ei eb es =
        let a' : p ≡ suc q = omega arith in
        ap₂ (λ x y. level_made q x i (get_or entries q 0) (made w c y)) (eb ∙ ap (level_at m entries) a') es
        ∙ ap (λ x. level_made q (level_at m entries (suc q)) x (get_or entries q 0) (made w c (sum_below (λ r. get_or counts r 0) q))) ei
        ∙ one_more
