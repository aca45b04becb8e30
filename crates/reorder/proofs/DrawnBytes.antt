-- The packed rows of a drawn function: each byte is gathered from the rows in turn, the lowest bit first.
-- Assumes nothing.
use mathlib.Core.Path.{◌≡◌, sym, ap, ap₂, ◌∙◌}
use mathlib.Core.Bool.{Bool}
use mathlib.Core.List.{[], ◌∷◌, ◌++◌, map}
use Prim.Native.Nat.{ℕ, zero, suc, ◌+◌, ◌*◌, ◌^◌, ◌≤◌, min}
use native.Mathlib.Nat.{not-suc-le-zero, add-zero, zero-add, add-suc, mul-zero, two-pow-succ, min-eq_left, min-eq_right, le_of_lt}
use native.Mathlib.Omega.{arith}
use lib.Pow.{pow-add, pow_mono}
use Rattle.lists.specs.Lists.{up_to}
use Rattle.lists.specs.Bits.{digit, packed}
use Rattle.lists.proofs.Numbers.UpTo.{map-up_to-cong, map-up_to-add}
use Rattle.lists.proofs.Bits.Packed.{packed-cong}
use Rattle.diagram.specs.Tree.{draw}
use Rattle.reorder.specs.Sizes.{width}
use Rattle.reorder.specs.Pack.{num, pack}
use Rattle.reorder.proofs.Pack.{width_small, width-suc, width-rows, by_width, pack-small, pack-node}

pub gathered-add : (m n : ℕ) (f : ℕ → Bool) → packed (m + n) f ≡ packed n (λ b. f (m + b)) * 2 ^ m + packed m f
gathered-add m zero f = ap (λ k. packed k f) (add-zero m) ∙ omega arith
gathered-add m (suc n) f =
    ap (λ k. packed k f) (add-suc m n)
    ∙ omega (arith, gathered-add m n f, ap (λ x. digit (f (m + n)) * x) (pow-add 2 m n))

from_zero : (d b : ℕ) → 2 ^ d * 0 + b ≡ b
from_zero d b = omega (arith, mul-zero (2 ^ d))

one_byte : (n : ℕ) (g : ℕ → Bool) → packed n g ∷ [] ≡ map (λ j. packed n (λ b. g (8 * j + b))) (up_to 1)
one_byte n g = ap (λ x. x ∷ []) (packed-cong n g (λ b. g (0 + b)) (λ b h. ap g (sym (zero-add b))))

module _ {A : Type 0} (p : A → Bool) where
  -- where the rows of the halves stand among all rows
  row_low : (f : ℕ → A) (d s b : ℕ) → p (f (2 ^ d * (2 * s) + b)) ≡ p (f (2 ^ suc d * s + b))
  row_low f d s b =
      let e : 2 ^ suc d ≡ 2 ^ d + 2 ^ d = two-pow-succ d in
      let q : 2 ^ d * (2 * s) + b ≡ (2 ^ d + 2 ^ d) * s + b = omega arith in
      rw (e, q)

  row-high : (f : ℕ → A) (d s b : ℕ) → p (f (2 ^ d * (2 * s + 1) + b)) ≡ p (f (2 ^ suc d * s + (2 ^ d + b)))
  row-high f d s b =
      let e : 2 ^ suc d ≡ 2 ^ d + 2 ^ d = two-pow-succ d in
      let q : 2 ^ d * (2 * s + 1) + b ≡ (2 ^ d + 2 ^ d) * s + (2 ^ d + b) = omega arith in
      rw (e, q)

  -- a drawn function's rows as a number
  pub num-draw : (d : ℕ) (f : ℕ → A) (s : ℕ) → num p (draw d f s) ≡ packed (2 ^ d) (λ b. p (f (2 ^ d * s + b)))
  num-draw zero f s = let e : 1 * s + 0 ≡ s = omega arith in rw e (omega arith)
  num-draw (suc d) f s =
      let g : ℕ → Bool = λ b. p (f (2 ^ suc d * s + b)) in
      ap₂ (λ x y. x * 2 ^ (2 ^ d) + y)
      (num-draw d f (2 * s + 1)
      ∙ packed-cong (2 ^ d) (λ b. p (f (2 ^ d * (2 * s + 1) + b))) (λ b. g (2 ^ d + b)) (λ b h. row-high f d s b))
      (num-draw d f (2 * s) ∙ packed-cong (2 ^ d) (λ b. p (f (2 ^ d * (2 * s) + b))) g (λ b h. row_low f d s b))
      ∙ sym (gathered-add (2 ^ d) (2 ^ d) g) ∙ ap (λ k. packed k g) (sym (two-pow-succ d))

  -- up to three variables: one byte
  pub draw-small : (d : ℕ) (f : ℕ → A) (s : ℕ) → d ≤ 3 → pack p (draw d f s) ≡ packed (2 ^ d) (λ b. p (f (2 ^ d * s + b))) ∷ []
  draw-small d f s h = pack-small p (draw d f s) h ∙ ap (λ x. x ∷ []) (num-draw d f s)

  -- from three variables on: byte j holds the eight rows from 8 * j on
  pub draw-large : (d : ℕ) (f : ℕ → A) (s : ℕ) → 3 ≤ d
      → pack p (draw d f s) ≡ map (λ j. packed 8 (λ b. p (f (2 ^ d * s + (8 * j + b))))) (up_to (width d))
  draw-large zero f s h = absurd (not-suc-le-zero h)
  draw-large (suc d) f s h =
      let byte : ℕ → ℕ = λ j. packed 8 (λ b. p (f (2 ^ suc d * s + (8 * j + b)))) in
      by_width d
      (λ k. let e : suc d ≡ 3 = omega arith in
      let g : ℕ → Bool = λ b. p (f (2 ^ suc d * s + b)) in
      draw-small (suc d) f s k ∙ ap (λ n. packed (2 ^ n) g ∷ []) e ∙ one_byte 8 g ∙ ap (λ n. map byte (up_to n))
      (sym (width_small (suc d) k)))
      (λ k. let w = width-rows d k in
      pack-node p (draw d f (2 * s)) (draw d f (2 * s + 1)) k
      ∙ ap₂ ◌++◌
      (draw-large d f (2 * s) k
      ∙ map-up_to-cong (width d) _ byte (λ j h. packed-cong 8 _ (λ b. p (f (2 ^ suc d * s + (8 * j + b))))
      (λ b h. row_low f d s (8 * j + b))))
      (draw-large d f (2 * s + 1) k
      ∙ map-up_to-cong (width d) _ (λ j. byte (width d + j))
      (λ j h. packed-cong 8 _ (λ b. p (f (2 ^ suc d * s + (8 * (width d + j) + b))))
      (λ b h. let q : 2 ^ d + (8 * j + b) ≡ 8 * (width d + j) + b = omega arith in
      row-high f d s (8 * j + b) ∙ ap (λ n. p (f (2 ^ suc d * s + n))) q)))
      ∙ sym (map-up_to-add byte (width d) (width d)) ∙ ap (λ n. map byte (up_to n)) (sym (width-suc d k)))

  -- at any depth, all rows of a function: each byte holds eight rows, or all of them where there are fewer
  pub draw-bytes : (d : ℕ) (f : ℕ → A)
      → pack p (draw d f 0) ≡ map (λ j. packed (min 8 (2 ^ d)) (λ b. p (f (8 * j + b)))) (up_to (width d))
  draw-bytes d f =
      by_width d
      (λ l. let k : d ≤ 3 = le_of_lt l in
      let n : min 8 (2 ^ d) ≡ 2 ^ d = min-eq_right (pow_mono {j = 3} k) in
      draw-small d f 0 k
      ∙ ap (λ x. x ∷ []) (packed-cong (2 ^ d) _ (λ b. p (f b)) (λ b h. ap (λ n. p (f n)) (from_zero d b)))
      ∙ one_byte (2 ^ d) (λ b. p (f b))
      ∙ ap₂ (λ m w. map (λ j. packed m (λ b. p (f (8 * j + b)))) (up_to w)) (sym n) (sym (width_small d k)))
      (λ k. let n : min 8 (2 ^ d) ≡ 8 = min-eq_left (pow_mono {i = 3} k) in
      draw-large d f 0 k
      ∙ map-up_to-cong (width d) _ (λ j. packed 8 (λ b. p (f (8 * j + b))))
      (λ j h. packed-cong 8 _ (λ b. p (f (8 * j + b))) (λ b h. ap (λ n. p (f n)) (from_zero d (8 * j + b))))
      ∙ ap (λ m. map (λ j. packed m (λ b. p (f (8 * j + b)))) (up_to (width d))) (sym n))
