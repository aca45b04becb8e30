-- The exchange of the two top variables as the code makes it: of a byte, of two bytes, and of four blocks of bytes.
-- Assumes nothing.
use mathlib.Core.Path.{◌≡◌, refl, sym, ap, ap₂, ◌∙◌}
use mathlib.Core.Bool.{Bool, true, false}
use mathlib.Core.List.{List, [], ◌∷◌, ◌++◌}
use Prim.Native.Nat.{ℕ, zero, suc, ◌+◌, ◌*◌, ◌-◌, ◌/◌, ◌%◌, ◌^◌, ◌≤◌, ◌<◌}
use native.Mathlib.Nat.{mod-lt, two-pow-succ, suc-ne-zero}
use native.Mathlib.Numerals.{add-one}
use native.Mathlib.Omega.{arith}
use borrow.Author.Tests.{le-ltb}
use lib.Arith.{digits_lt}
use lib.ListN.{length, get_or, set, take, drop, length-drop}
use lib.Pow.{pow-add, pow_pos}
use lib.Seq.{take-take, take_all, drop-drop}
use Rattle.lists.specs.Bits.{digit}
use Rattle.lists.proofs.Bits.Digits.{digit-part-le}
use Rattle.lists.proofs.Written.Splice.{drop-take}
use Rattle.reorder.specs.Sizes.{width}
use Rattle.matching.specs.Parts.{half_byte}
use Rattle.matching.specs.Exchange.{join_byte, paired_byte, exchanged_byte, exchanged_plane}

-- one byte

-- two halves, joined by a shift and a sum, fit a byte
module _ (low high : ℕ) where
  joined : (d : ℕ) → d < 3 → low < 2 ^ (2 ^ d) → high < 2 ^ (2 ^ d)
      → (high * 2 ^ (1 * 2 ^ d % 18446744073709551616) % 256 + low < 256)
      × (high * 2 ^ (1 * 2 ^ d % 18446744073709551616) % 256 + low ≡ join_byte d low high)
  joined zero h l m = (omega arith, omega arith)
  joined (suc zero) h l m = (omega arith, omega arith)
  joined (suc (suc zero)) h l m = (omega arith, omega arith)
  joined (suc (suc (suc d))) h l m = absurd (omega arith)

  pub join-fits : (d : ℕ) → d < 3 → low < 2 ^ (2 ^ d) → high < 2 ^ (2 ^ d)
      → high * 2 ^ (1 * 2 ^ d % 18446744073709551616) % 256 + low < 256
  join-fits d h l m = (joined d h l m).0

  pub join-shifted : (d : ℕ) → d < 3 → low < 2 ^ (2 ^ d) → high < 2 ^ (2 ^ d)
      → high * 2 ^ (1 * 2 ^ d % 18446744073709551616) % 256 + low ≡ join_byte d low high
  join-shifted d h l m = (joined d h l m).1

-- a byte taken apart and put together anew
pub byte-joined : (d x low high first second y : ℕ) → low ≡ half_byte false (d + 1) x → high ≡ half_byte true (d + 1) x
    → first ≡ paired_byte false d low high → second ≡ paired_byte true d low high → y ≡ join_byte (d + 1) first second
    → y ≡ exchanged_byte d x
unfolding exchanged_byte
byte-joined d x low high first second y l h f g e = e ∙ rw (f, g, l, h, add-one d)

-- a plane of one byte
pub byte-exchanged : (d : ℕ) (plane : List ℕ) (y : ℕ) → d < 2 → length plane ≡ width (suc (suc d))
    → y ≡ exchanged_byte d (get_or plane 0 0) → set plane 0 y ≡ exchanged_plane d plane
unfolding exchanged_byte exchanged_plane
byte-exchanged zero [] y h n e = absurd (suc-ne-zero 0 (sym n))
byte-exchanged zero (x ∷ []) y h n e = ap (λ (z : ℕ). z ∷ []) e
byte-exchanged zero (x ∷ x' ∷ plane) y h n e = let z : ◌≡◌ {A = ℕ} 0 1 = omega arith in absurd (suc-ne-zero 0 (sym z))
byte-exchanged (suc zero) [] y h n e = absurd (suc-ne-zero 0 (sym n))
byte-exchanged (suc zero) (x ∷ []) y h n e = ap (λ (z : ℕ). z ∷ []) e
byte-exchanged (suc zero) (x ∷ x' ∷ plane) y h n e = let z : ◌≡◌ {A = ℕ} 0 1 = omega arith in absurd (suc-ne-zero 0 (sym z))
byte-exchanged (suc (suc d)) plane y h n e = absurd (omega arith)

-- a plane of two bytes
pub nibbles-exchanged : (plane : List ℕ) (x y : ℕ) → length plane ≡ 2
    → x ≡ paired_byte false 2 (get_or plane 0 0) (get_or plane 1 0) → y ≡ paired_byte true 2 (get_or plane 0 0) (get_or plane 1 0)
    → set (set plane 0 x) 1 y ≡ exchanged_plane 2 plane
unfolding exchanged_plane
nibbles-exchanged [] x y n p q = absurd (suc-ne-zero 1 (sym n))
nibbles-exchanged (a ∷ []) x y n p q = let z : ◌≡◌ {A = ℕ} 0 1 = omega arith in absurd (suc-ne-zero 0 (sym z))
nibbles-exchanged (a ∷ b ∷ []) x y n p q = ap₂ (λ (i j : ℕ). i ∷ j ∷ []) p q
nibbles-exchanged (a ∷ b ∷ c ∷ plane) x y n p q = let z : ◌≡◌ {A = ℕ} 0 1 = omega arith in absurd (suc-ne-zero 0 (sym z))

-- four blocks of q bytes

-- block 2 * a + b
quarter : (a b : Bool) (q : ℕ) (p : List ℕ)
    → take q (drop (digit b * q) (take (q + q) (drop (digit a * (q + q)) p))) ≡ take q (drop (digit a * (q + q) + digit b * q) p)
quarter a b q p =
    let n = digit b * q in
    let l = drop (digit a * (q + q)) p in
    let i = digit-part-le b q in
    let m : q + q ≡ n + (q + q - n) = omega arith in
    ap (λ (y : ℕ). take q (drop n (take y l))) m ∙ ap (take q) (drop-take n (q + q - n) l)
    ∙ take-take q (q + q - n) (drop n l) (omega arith) ∙ ap (take q) (drop-drop n (digit a * (q + q)) p)

-- the second and the third exchanged
abbrev blocks_swapped : ℕ → List ℕ → List ℕ
blocks_swapped q p = (take q p ++ take q (drop (2 * q) p)) ++ (take q (drop q p) ++ drop (3 * q) p)

blocks-wide : (d : ℕ) (p : List ℕ) → 3 ≤ d → length p ≡ 4 * width d
    → blocks_swapped (width d) p ≡ exchanged_plane d p
unfolding exchanged_plane
blocks-wide d p h n =
    let s = le-ltb d 3 h in
    let t = le-ltb (suc d) 3 (omega arith) in
    let q = width d in
    let zero-at : 0 * (q + q) + 0 * q ≡ 0 = omega arith in
    let one_at : 0 * (q + q) + 1 * q ≡ q = omega arith in
    let two_at : 1 * (q + q) + 0 * q ≡ 2 * q = omega arith in
    let three-at : 1 * (q + q) + 1 * q ≡ 3 * q = omega arith in
    let at : (a b : Bool) (k : ℕ) → digit a * (q + q) + digit b * q ≡ k
    → take q (drop (digit b * q) (take (q + q) (drop (digit a * (q + q)) p))) ≡ take q (drop k p) =
    λ a b k e. quarter a b q p ∙ ap (λ (y : ℕ). take q (drop y p)) e in
    rw (s, t)
    (ap (λ (x : List ℕ). (take q p ++ take q (drop (2 * q) p)) ++ (take q (drop q p) ++ x))
    (sym (take_all q (drop (3 * q) p) (omega (arith, length-drop (3 * q) p))))
    ∙ sym
    (ap₂ (λ (x y : List ℕ). x ++ y)
    (ap₂ ◌++◌ (at false false 0 zero-at) (at true false (2 * q) two_at))
    (ap₂ ◌++◌ (at false true q one_at) (at true true (3 * q) three-at))))

pub blocks-exchanged : (d q : ℕ) (p : List ℕ) → 3 ≤ d → q ≡ width d → length p ≡ 4 * q → blocks_swapped q p ≡ exchanged_plane d p
blocks-exchanged d q p h e n =
    ap (λ (k : ℕ). blocks_swapped k p) e ∙ blocks-wide d p h (n ∙ ap (λ (k : ℕ). 4 * k) e)
