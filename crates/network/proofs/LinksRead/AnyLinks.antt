-- Whatever stands in the work buffer: reading a level writes no byte but those of its own links, and makes a node of each entry whose two
-- links differ.
-- Assumes nothing.
use mathlib.Core.Path.{◌≡◌, sym, ap, ap₂, ◌∙◌, subst}
use mathlib.Core.Bool.{not}
use mathlib.Core.List.{List}
use Prim.Native.Nat.{ℕ, zero, suc, ◌+◌, ◌*◌, ◌-◌, ◌≤◌, ◌<◌}
use native.Mathlib.Omega.{arith}
use lib.Dec.{eqb}
use lib.ListN.{get_or}
use Rattle.lists.specs.Bits.{digit}
use Rattle.lists.specs.Sums.{sum_below}
use Rattle.lists.proofs.Bools.{split}
use Rattle.lists.proofs.Numbers.Sums.{sum-cong}
use Rattle.lists.proofs.Written.Outside.{Outside, outside-none, outside-join}
use Rattle.fill.specs.Counts.{link_at, pair_differs, differing_pairs}
use Rattle.network.specs.Levels.{Made, made, entry_made, level_made, level_at, levels_made}
use Rattle.network.proofs.LinksRead.Offsets.{at-rises}
use Rattle.network.proofs.LinksRead.Stored.{same-stored, outside-put}

-- the same bytes, the same pair

same-pair : (w w' : List ℕ) (a : ℕ) → ((j : ℕ) → a ≤ j → j < a + 4 → get_or w' j 0 ≡ get_or w j 0) → pair_differs w' a ≡ pair_differs w a
unfolding pair_differs
same-pair w w' a f =
    ap₂ (λ (x y : ℕ). not (eqb x y)) (same-stored w w' a (f a (omega arith) (omega arith)) (f (a + 1) (omega arith) (omega arith)))
    (same-stored w w' (a + 2) (f (a + 2) (omega arith) (omega arith)) (f (a + 2 + 1) (omega arith) (omega arith)))

same-pairs : (w w' : List ℕ) (i e : ℕ) → ((j : ℕ) → i ≤ j → j < i + 4 * e → get_or w' j 0 ≡ get_or w j 0)
    → differing_pairs w' i e ≡ differing_pairs w i e
same-pairs w w' i e f =
    sum-cong (λ j. digit (pair_differs w' (i + 4 * j))) (λ j. digit (pair_differs w (i + 4 * j))) e
    (λ j h. ap digit (same-pair w w' (i + 4 * j) (λ k a b. f k (omega arith) (omega arith))))

module _ (p below : ℕ) where
  -- one entry

  entry-outside : (i : ℕ) (s : Made) → Outside s.work (entry_made p below i s).work i (i + 2)
  unfolding entry_made
  entry-outside i s =
      split (eqb (link_at s.work i) (link_at s.work (i + 2)))
      (λ e. rw e (outside-put s.work i _)) (λ e. rw e (outside-put s.work i _))

  entry-counted : (i : ℕ) (s : Made) → (entry_made p below i s).next ≡ s.next + digit (pair_differs s.work i)
  unfolding entry_made pair_differs
  entry-counted i s =
      split (eqb (link_at s.work i) (link_at s.work (i + 2))) (λ e. rw e (omega arith)) (λ e. rw e (omega arith))

  -- the entries of one level

  pub level-outside : (i e : ℕ) (s : Made) → Outside s.work (level_made p below i e s).work i (i + 4 * e)
  unfolding level_made
  level-outside i zero s = outside-none s.work i (i + 4 * 0)
  level-outside i (suc e) s =
      outside-join (omega arith) (omega arith) (omega arith) (omega arith) (level-outside i e s)
      (entry-outside (i + 4 * e) (level_made p below i e s))

  level-counted : (i e : ℕ) (s : Made) → (level_made p below i e s).next ≡ s.next + differing_pairs s.work i e
  unfolding level_made
  level-counted i zero s = omega arith
  level-counted i (suc e) s =
      let u = level_made p below i e s in
      let o = level-outside i e s in
      omega (
        arith,
        level-counted i e s,
        entry-counted (i + 4 * e) u,
        ap digit (same-pair s.work u.work (i + 4 * e) (λ j a b. o.past j a)),
      )

-- all levels
module _ (m : ℕ) (entries counts : List ℕ) where
  pub levels-outside : (p k : ℕ) (s : Made)
      → Outside s.work (levels_made m entries counts p k s).work (level_at m entries p) (level_at m entries (p + k))
  unfolding levels_made
  levels-outside p zero s = outside-none s.work (level_at m entries p) (level_at m entries (p + 0))
  levels-outside p (suc k) s =
      let e : suc p + k ≡ p + suc k = omega arith in
      let t = levels_made m entries counts (suc p) k s in
      outside-join (omega arith) (omega arith) (omega (arith, ap (level_at m entries) e))
      (omega (arith, at-rises m entries (suc p) (p + suc k) (omega arith))) (levels-outside (suc p) k s)
      (level-outside p (level_at m entries (suc p)) (level_at m entries p) (get_or entries p 0)
      (made t.work t.cells (sum_below (λ q. get_or counts q 0) p)))

  module _ (q : ℕ) (s : Made) (e : get_or counts q 0 ≡ differing_pairs s.work (level_at m entries q) (get_or entries q 0)) where
    level-next : (k : ℕ) → (levels_made m entries counts q (suc k) s).next ≡ sum_below (λ r. get_or counts r 0) (suc q)
    unfolding levels_made
    level-next k =
        let t = levels_made m entries counts (suc q) k s in
        let i = level_at m entries q in
        let x = get_or entries q 0 in
        let o = levels-outside (suc q) k s in
        let c = sum_below (λ r. get_or counts r 0) q in
        level-counted q (level_at m entries (suc q)) i x (made t.work t.cells c)
        ∙ ap (λ (y : ℕ). c + y) (same-pairs s.work t.work i x (λ j a b. o.under j (omega arith)) ∙ sym e)

    -- where a level's count is that of its links, the next node's index is the one behind the level
    pub levels-counted : (n : ℕ) → q < n → (levels_made m entries counts q (n - q) s).next ≡ sum_below (λ r. get_or counts r 0) (suc q)
    levels-counted n h =
        let k : suc (n - suc q) ≡ n - q = omega arith in
        subst (λ (x : ℕ). (levels_made m entries counts q x s).next ≡ sum_below (λ r. get_or counts r 0) (suc q)) k (level-next (n - suc q))
