-- Halves of a part of at most 128 rows, as words: half b of d variables, out of the planes that start at a.
-- Assumes nothing.
use mathlib.Core.Path.{◌≡◌, refl, sym, ap, ap₂, ◌∙◌, subst}
use mathlib.Core.Bool.{Bool}
use mathlib.Core.List.{List, [], ◌∷◌, ◌++◌}
use Prim.Native.Nat.{ℕ, zero, suc, ◌+◌, ◌*◌, ◌-◌, ◌/◌, ◌%◌, ◌^◌, ◌≤◌, ◌<◌}
use native.Mathlib.Nat.{add-zero, le_refl, le_of_lt, mod-lt, lt_of_lt_of_le}
use native.Mathlib.Omega.{arith}
use borrow.Author.Tests.{lt-ltb, le-ltb}
use lib.Bits.{bit_and, and_mask}
use lib.Dec.{lit<}
use lib.ListN.{length, get_or, take, drop, length-drop}
use lib.Pow.{pow_pos, pow_mono, field, mod-mod-pow}
use lib.Seq.{get_or-take, take_all, take-take, drop-drop, length-take-le}
use Rattle.lists.specs.Bits.{digit}
use Rattle.lists.proofs.Bits.Digits.{digit-part-le, one_shifted}
use Rattle.lists.proofs.Written.Splice.{drop-take}
use Rattle.lists.proofs.Written.Windows.{window-within}
use Rattle.reorder.specs.Sizes.{width}
use Rattle.reorder.proofs.Pack.{width_small, width-suc, width-rows, by_width}
use Rattle.matching.specs.Level.{part_at}
use Rattle.matching.specs.Parts.{half_byte, half_bytes, half_part}
use Rattle.matching.specs.Inner.Words.{number_of, bytes_of, part_of}
use Rattle.matching.proofs.Parts.PartHalves.{width-pos, width_narrow}
use Rattle.matching.proofs.Wordwise.Bytes.{Small, small-drop, small-take, word_lt, word-take, word-drop, bytes_word}

-- a half by a shift and a mask, where r is how many rows it has
pub half-masked : (b : Bool) (d r s x : ℕ) → d ≤ 5 → r ≡ 2 ^ d → s ≡ digit b * r
    → (r < 64) × (s < 64) × (1 ≤ 1 * 2 ^ r % 2 ^ 64) × (bit_and (x / 2 ^ s) (1 * 2 ^ r % 2 ^ 64 - 1) ≡ half_byte b d x)
half-masked b d r s x h p q =
    let few : r < 64 = omega (arith, pow_mono {j = 5} h) in
    let one = one_shifted r few in (
      few,
      omega (arith, digit-part-le b r),
      omega (arith, pow_pos r),
      ap (λ (y : ℕ). bit_and (x / 2 ^ s) (y - 1)) one ∙ and_mask (x / 2 ^ s) r
          ∙ ap₂ (λ (i j : ℕ). x / 2 ^ i % 2 ^ j) (q ∙ ap (λ (y : ℕ). digit b * y) p) p,
    )

-- below a byte only the lowest byte counts
half-low : (b : Bool) (d x : ℕ) → d < 3 → half_byte b d (x % 256) ≡ half_byte b d x
half-low b d x h =
    let m = digit b * 2 ^ d in
    let r = 2 ^ d in
    let few : m + r ≤ 8 = omega (arith, digit-part-le b r, pow_mono {i = d} {j = 2} (omega arith)) in
    let e : 8 ≡ 8 - m + m = omega arith in
    let q : 8 - m ≡ 8 - m - r + r = omega arith in
    ap (λ (k : ℕ). x % 2 ^ k / 2 ^ m % 2 ^ r) e ∙ ap (λ (y : ℕ). y % 2 ^ r) (field x (8 - m) m)
    ∙ ap (λ (k : ℕ). x / 2 ^ m % 2 ^ k % 2 ^ r) q ∙ mod-mod-pow (x / 2 ^ m) (8 - m - r) r

first_byte : (l : List ℕ) → Small l → get_or l 0 0 ≡ number_of l % 256
first_byte [] h = refl
first_byte (x ∷ l) h = omega (arith, h 0)

one-small : (x : ℕ) → x < 256 → Small (x ∷ [])
one-small x h zero = h
one-small x h (suc j) = lit< tt

-- the half of a plane: bits of a byte, or bytes
half-bits : (b : Bool) (d w : ℕ) (plane : List ℕ) → d < 3 → half_bytes b d w plane ≡ half_byte b d (get_or plane 0 0) ∷ []
half-bits b d w plane k = let e = lt-ltb d 3 k in rw e

pub half-cut : (b : Bool) (d w : ℕ) (plane : List ℕ) → 3 ≤ d → half_bytes b d w plane ≡ take w (drop (digit b * w) plane)
half-cut b d w plane k = let e = le-ltb d 3 k in rw e

-- a plane and what its half comes to
abbrev pub plane_at : ℕ → ℕ → List ℕ → List ℕ
plane_at d a l = take (width (suc d)) (drop a l)

abbrev pub half_at : Bool → ℕ → ℕ → List ℕ → List ℕ
half_at b d a l = half_bytes b d (width d) (plane_at d a l)

module _ (b : Bool) (d a : ℕ) (l : List ℕ) (h : Small l) where
  -- out of the word that the plane lies in
  pub half-in-word : d ≤ 5 → half_byte b d (number_of (take 8 (drop a l))) ≡ number_of (half_at b d a l)
  half-in-word few =
      let w = width d in
      let v = width (suc d) in
      let x = number_of (take 8 (drop a l)) in
      let small = small-take 8 (drop a l) (small-drop a l h) in
      by_width d
      (λ k. let q : get_or (plane_at d a l) 0 0 ≡ x % 256 =
      get_or-take v (drop a l) 0 0 (width-pos (suc d)) ∙ sym (get_or-take 8 (drop a l) 0 0 (lit< tt)) ∙ first_byte (take 8 (drop a l)) small in
      sym (half-low b d x k) ∙ ap (half_byte b d) (sym q) ∙ sym (add-zero (half_byte b d (get_or (plane_at d a l) 0 0)))
      ∙ ap number_of (sym (half-bits b d w (plane_at d a l) k)))
      (λ k. let n = digit b * w in
      let within : n + w ≤ v = omega (arith, width-suc d k, digit-part-le b w) in
      let r : 8 * w ≡ 2 ^ d = omega (arith, width-rows d k) in
      let o : 8 * n ≡ digit b * (8 * w) = omega arith in
      let s : 8 * n ≡ digit b * 2 ^ d = o ∙ ap (λ (y : ℕ). digit b * y) r in
      let bytes : half_at b d a l ≡ take w (drop n (take 8 (drop a l))) =
      half-cut b d w (plane_at d a l) k ∙ window-within (drop a l) n w v within
      ∙ sym (window-within (drop a l) n w 8 (omega (arith, width_narrow (suc d) (omega arith)))) in
      sym (ap number_of bytes ∙ word-take w (drop n (take 8 (drop a l))) (small-drop n (take 8 (drop a l)) small)
      ∙ ap (λ (y : ℕ). y % 2 ^ (8 * w)) (word-drop n (take 8 (drop a l)) small)
      ∙ ap₂ (λ (i j : ℕ). x / 2 ^ i % 2 ^ j) s r))

  -- of 64 rows it is a word by itself
  pub half-is-word : (s : ℕ) → d ≡ 6 → s ≡ digit b * 8 → number_of (take 8 (drop (a + s) l)) ≡ number_of (half_at b d a l)
  half-is-word s p q =
      rw p
      (ap number_of
      (ap (λ (n : ℕ). take 8 (drop (a + n) l)) q ∙ ap (take 8) (sym (drop-drop (digit b * 8) a l))
      ∙ sym (window-within (drop a l) (digit b * 8) 8 16 (omega (arith, digit-part-le b 8)))))

  module _ (in_List : a + width (suc d) ≤ length l) where
    half-small : Small (half_at b d a l)
    half-small =
        by_width d
        (λ k. let y = get_or (plane_at d a l) 0 0 in
        let few : 2 ^ d ≤ 8 = omega (arith, pow_mono {i = d} {j = 2} (omega arith)) in
        subst Small (sym (half-bits b d (width d) (plane_at d a l) k))
        (one-small (half_byte b d y) (lt_of_lt_of_le (mod-lt (y / 2 ^ (digit b * 2 ^ d)) (pow_pos (2 ^ d))) (pow_mono {j = 8} few))))
        (λ k. subst Small (sym (half-cut b d (width d) (plane_at d a l) k))
        (small-take (width d) (drop (digit b * width d) (plane_at d a l))
        (small-drop (digit b * width d) (plane_at d a l) (small-take (width (suc d)) (drop a l) (small-drop a l h)))))

    length-half-at : length (half_at b d a l) ≡ width d
    length-half-at =
        let long : length (plane_at d a l) ≡ width (suc d) = length-take-le (width (suc d)) (drop a l) (omega (arith, length-drop a l)) in
        by_width d (λ k. ap length (half-bits b d (width d) (plane_at d a l) k) ∙ sym (width_small d (le_of_lt k)))
        (λ k. let n = digit b * width d in
        ap length (half-cut b d (width d) (plane_at d a l) k)
        ∙ length-take-le (width d) (drop n (plane_at d a l))
        (omega (arith, length-drop n (plane_at d a l), width-suc d k, digit-part-le b (width d))))

    half-bytes-are : bytes_of (width d) (number_of (half_at b d a l)) ≡ half_at b d a l
    half-bytes-are =
        bytes_word (width d) (half_at b d a l) half-small (omega (arith, length-half-at))
        ∙ take_all (width d) (half_at b d a l) (omega (arith, length-half-at))

    pub half-word-lt : number_of (half_at b d a l) < 256 ^ width d
    half-word-lt =
        subst (λ (y : List ℕ). number_of y < 256 ^ width d) (take_all (width d) (half_at b d a l) (omega (arith, length-half-at)))
        (word_lt (width d) (width d) (half_at b d a l) half-small (le_refl (width d)))

-- the half of the part at a, by its words
pub half-words : (b : Bool) (d a : ℕ) (l : List ℕ) → Small l → a + (width (suc d) + width (suc d)) ≤ length l
    → half_part b d (part_at (suc d) a l) ≡ part_of (width d) (number_of (half_at b d a l)) (number_of (half_at b d (a + width (suc d)) l))
unfolding half_part
half-words b d a l h in_List =
    let v = width (suc d) in
    ap₂ (λ (x y : List ℕ). half_bytes b d (width d) x ++ half_bytes b d (width d) y)
    (take-take v (v + v) (drop a l) (omega arith)) (drop-take v v (drop a l) ∙ ap (take v) (drop-drop v a l))
    ∙ sym (ap₂ ◌++◌ (half-bytes-are b d a l h (omega arith)) (half-bytes-are b d (a + v) l h (omega arith)))
