-- One entry read: what is left by whether its two links differ, and what every entry and every level leaves as it was.
-- Assumes nothing.
use mathlib.Core.Path.{◌≡◌, refl, sym, ap, ap₂, ◌∙◌, subst}
use mathlib.Core.Bool.{true, false}
use mathlib.Core.List.{List, [], ◌∷◌}
use Prim.Native.Nat.{ℕ, zero, suc, ◌+◌, ◌*◌, ◌-◌, ◌%◌, ◌≤◌, ◌<◌}
use native.Mathlib.Nat.{le_refl, le_trans, add-zero, add-suc}
use native.Mathlib.Numerals.{add-one}
use native.Mathlib.Omega.{arith}
use borrow.Author.Tests.{eq-eqb, ne_eqb}
use lib.Dec.{eqb}
use lib.ListN.{length, length-set}
use lib.Seq.{sets}
use Rattle.lists.proofs.Bools.{split}
use Rattle.lists.proofs.Bits.Digits.{digit-eqb}
use Rattle.diagram.specs.Networks.Diagram.{inverts, opposite}
use Rattle.diagram.specs.Networks.Network.{reference}
use Rattle.network.specs.Levels.{stored_at, put_stored, ref_at, Made, made, noded, entry_made, level_made}

node-reference : (next r : ℕ) → reference true next (inverts true r) ≡ 2 * (next + 1) + r % 2
node-reference next r = rw (digit-eqb (r % 2) (omega arith)) (omega arith)

module _ (work cells : List ℕ) (p below i next k l : ℕ) (ek : k ≡ stored_at work i) (el : l ≡ stored_at work (i + 2)) where
  alike : k ≡ l → eqb (stored_at work i) (stored_at work (i + 2)) ≡ true
  alike e = eq-eqb (stored_at work i) (stored_at work (i + 2)) (sym ek ∙ e ∙ el)

  unlike : (k ≡ l → ⊥) → eqb (stored_at work i) (stored_at work (i + 2)) ≡ false
  unlike d = ne_eqb (stored_at work i) (stored_at work (i + 2)) (λ e. d (ek ∙ e ∙ sym el))

  pub entry_next : (k ≡ l → ⊥) → (entry_made p below i (made work cells next)).next ≡ next + 1
  unfolding entry_made
  entry_next d = rw (unlike d)

  pub entry-alike : (r : ℕ) (w : List ℕ) → k ≡ l → r ≡ ref_at work below k → w ≡ put_stored work i r
      → made w cells next ≡ entry_made p below i (made work cells next)
  unfolding entry_made
  entry-alike r w e er ew =
      rw (alike e) (ap (λ (x : List ℕ). made x cells next) (ew ∙ ap (put_stored work i) (er ∙ ap (ref_at work below) ek)))

  pub entry-unlike : (r q low high : ℕ) (w c : List ℕ) → (k ≡ l → ⊥) → r ≡ ref_at work below k → q ≡ ref_at work below l
      → low ≡ opposite (eqb (r % 2) 1) r → high ≡ opposite (eqb (r % 2) 1) q
      → c ≡ sets cells (3 * next) (p ∷ low ∷ high ∷ []) → w ≡ put_stored work i (2 * (next + 1) + r % 2)
      → made w c (next + 1) ≡ entry_made p below i (made work cells next)
  unfolding entry_made
  entry-unlike r q low high w c d er eq lo hi ec ew =
      let s = made work cells next in
      let plain : made w c (next + 1) ≡ noded p i r q s =
      ap₂ (λ (x y : List ℕ). made x y (next + 1)) (ew ∙ ap (put_stored work i) (sym (node-reference next r)))
      (ec ∙ ap₂ (λ x y. sets cells (3 * next) (p ∷ x ∷ y ∷ [])) lo hi) in
      rw (unlike d) (plain ∙ ap₂ (λ x y. noded p i x y s) (er ∙ ap (ref_at work below) ek) (eq ∙ ap (ref_at work below) el))

-- the lengths stay, and the next index rises

module _ (p below : ℕ) where
  entry_kept : (i : ℕ) (s : Made)
      → (length (entry_made p below i s).work ≡ length s.work) × (length (entry_made p below i s).cells ≡ length s.cells)
      × (s.next ≤ (entry_made p below i s).next)
  unfolding entry_made
  entry_kept i s =
      split (eqb (stored_at s.work i) (stored_at s.work (i + 2)))
      (λ e. rw e (simp length-set, refl, le_refl s.next))
      (λ e. rw e (simp length-set, simp length-set, omega arith))

  pub level-work : (i e : ℕ) (s : Made) → length (level_made p below i e s).work ≡ length s.work
  unfolding level_made
  level-work i zero s = refl
  level-work i (suc e) s = (entry_kept (i + 4 * e) (level_made p below i e s)).0 ∙ level-work i e s

  pub level-cells : (i e : ℕ) (s : Made) → length (level_made p below i e s).cells ≡ length s.cells
  unfolding level_made
  level-cells i zero s = refl
  level-cells i (suc e) s = (entry_kept (i + 4 * e) (level_made p below i e s)).1 ∙ level-cells i e s

  level-more : (i e : ℕ) (s : Made) → level_made p below i (e + 1) s ≡ entry_made p below (i + 4 * e) (level_made p below i e s)
  unfolding level_made
  level-more i e s = rw add-one

  -- the index after j + 1 entries is at most that after k more
  level-rises : (i j k : ℕ) (s : Made)
      → (entry_made p below (i + 4 * j) (level_made p below i j s)).next ≤ (level_made p below i (j + 1 + k) s).next
  unfolding level_made
  level-rises i j zero s = rw (add-zero (j + 1), add-one) (le_refl _)
  level-rises i j (suc k) s =
      rw (add-suc (j + 1) k) (le_trans (level-rises i j k s) (entry_kept (i + 4 * (j + 1 + k)) (level_made p below i (j + 1 + k) s)).2)

  -- e entries one after the other, where u is what j of them make of s
  module _ (i e j : ℕ) (s u : Made) (so_far : u ≡ level_made p below i j s) where
    pub turn-next : j < e → (entry_made p below (i + 4 * j) u).next ≤ (level_made p below i e s).next
    turn-next h =
        let k : j + 1 + (e - (j + 1)) ≡ e = omega arith in
        rw so_far (subst (λ x. (entry_made p below (i + 4 * j) (level_made p below i j s)).next ≤ (level_made p below i x s).next) k
        (level-rises i j (e - (j + 1)) s))

    pub turn-made : (v : Made) → v ≡ entry_made p below (i + 4 * j) u → v ≡ level_made p below i (j + 1) s
    turn-made v q = q ∙ ap (entry_made p below (i + 4 * j)) so_far ∙ sym (level-more i j s)
