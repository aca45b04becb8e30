-- A candidate of at most 64 rows, as two words f and c, and an entry of a region l: its part starts at byte a. What code computes of its
-- words is what the tests and the merge come to on the parts.
-- Assumes nothing.
use mathlib.Core.Path.{◌≡◌, sym, ap, ap₂, ◌∙◌, subst}
use mathlib.Core.Bool.{Bool, true, false, cond}
use mathlib.Core.List.{List}
use Prim.Native.Nat.{ℕ, ◌+◌, ◌^◌, ◌≤◌, ◌<◌}
use native.Mathlib.Nat.{le_refl}
use native.Mathlib.Omega.{arith}
use borrow.Author.Tests.{eq-eqb, ne_eqb}
use lib.Bits.{bit_and, bit_or, bit_xor}
use lib.ListN.{length, take, drop, length-drop}
use lib.Seq.{take_all}
use Rattle.matching.specs.Bytes.{always_byte, agree_byte, merge_byte}
use Rattle.matching.specs.Parts.{always_part, agree_part, merge_part}
use Rattle.matching.specs.Inner.Words.{number_of, part_of}
use Rattle.matching.proofs.Wordwise.Bytes.{Small, small-drop, word_lt}
use Rattle.matching.proofs.Wordwise.PartWords.{always-word, agree-word, merge-words, part-words}

-- a candidate of bytes by the numbers of its values and its care
pub own-words : (w v c : ℕ) (f : List ℕ) → Small f → length f ≡ w + w → v ≡ number_of (take w f) → c ≡ number_of (drop w f)
    → (part_of w v c ≡ f) × (c < 256 ^ w)
own-words w v c f h long p q =
    let z : 0 + w ≡ w = omega arith in
    let r : c ≡ number_of (take w (drop w f)) = q ∙ ap number_of (sym (take_all w (drop w f) (omega (arith, length-drop w f)))) in
    let e : take (w + w) f ≡ part_of w (number_of (take w f)) (number_of (take w (drop (0 + w) f))) =
    part-words w 0 w f h (le_refl w) (omega arith) in (
      ap₂ (part_of w) p (r ∙ ap (λ (n : ℕ). number_of (take w (drop n f))) (sym z)) ∙ sym e ∙ take_all (w + w) f (omega arith),
      subst (λ (x : ℕ). x < 256 ^ w) (sym r) (word_lt w w (drop w f) (small-drop w f h) (le_refl w)),
    )

-- the candidate's own test
module _ (w f c : ℕ) (small : c < 256 ^ w) (v : Bool) where
  pub always-met : bit_and f c ≡ cond v c 0 → always_part v w (part_of w f c) ≡ true
  unfolding always_byte
  always-met t = always-word w f c v small ∙ eq-eqb (bit_and f c) (cond v c 0) t

  pub always-missed : (bit_and f c ≡ cond v c 0 → ⊥) → always_part v w (part_of w f c) ≡ false
  unfolding always_byte
  always-missed t = always-word w f c v small ∙ ne_eqb (bit_and f c) (cond v c 0) t

-- the candidate's words merged into those of a part, g and d
pub words-merged : (w f c : ℕ) (i : Bool) (l : List ℕ) → Small l → length l ≡ w + w → (g d : ℕ)
    → g ≡ number_of (take w l) → d ≡ number_of (drop w l)
    → part_of w (merge_byte i f c g) (bit_or c d) ≡ merge_part i w (part_of w f c) l
words-merged w f c i l h long g d is-g is-d =
    sym (merge-words w f c g d i) ∙ ap (merge_part i w (part_of w f c)) (own-words w g d l h long is-g is-d).0

-- the candidate and an entry at the front of l, by the words of both: d is the rows that differ and b those that both care for
module _ (w f c : ℕ) (l : List ℕ) (h : Small l) (few : w ≤ 8) (room : w + w + 8 ≤ length l) (small : c < 256 ^ w)
    (x y : ℕ) (is_x : x ≡ number_of (take 8 l)) (is_y : y ≡ number_of (take 8 (drop w l))) (i : Bool) where
  entry-words : take (w + w) l ≡ part_of w x y
  entry-words =
      let z : 0 + w ≡ w = omega arith in
      part-words w 0 8 l h few (omega arith)
      ∙ ap₂ (part_of w) (sym is_x) (ap (λ (n : ℕ). number_of (take 8 (drop n l))) z ∙ sym is_y)

  agree-entry : agree_part i w (part_of w f c) (take (w + w) l) ≡ agree_byte i f c x y
  agree-entry = ap (agree_part i w (part_of w f c)) entry-words ∙ agree-word w f c x y i small

  pub agrees : bit_and (bit_xor f x) (bit_and c y) ≡ cond i (bit_and c y) 0 → agree_part i w (part_of w f c) (take (w + w) l) ≡ true
  unfolding agree_byte
  agrees t = agree-entry ∙ eq-eqb (bit_and (bit_xor f x) (bit_and c y)) (cond i (bit_and c y) 0) t

  pub differs : (bit_and (bit_xor f x) (bit_and c y) ≡ cond i (bit_and c y) 0 → ⊥)
      → agree_part i w (part_of w f c) (take (w + w) l) ≡ false
  unfolding agree_byte
  differs t = agree-entry ∙ ne_eqb (bit_and (bit_xor f x) (bit_and c y)) (cond i (bit_and c y) 0) t
