-- The tests and the merge of parts of w bytes of values and w bytes of care, put to the numbers of those bytes: what they come to on the
-- numbers is what they come to byte after byte.
-- Assumes nothing.
use mathlib.Core.Path.{◌≡◌, refl, sym, ap, ap₂, ◌∙◌}
use mathlib.Core.Bool.{Bool, true, false, cond, ◌&&◌}
use mathlib.Core.List.{List, ◌∷◌, ◌++◌, map}
use Prim.Native.Nat.{ℕ, zero, suc, ◌+◌, ◌*◌, ◌/◌, ◌%◌, ◌^◌, ◌≤◌, ◌<◌}
use native.Mathlib.Omega.{arith}
use lib.Arith.{lt-one}
use lib.Bits.{bit_and, bit_or, bit_xor, and_zero_l, and_zero_r, or_block, and_lt, or_lt, xor_lt}
use lib.Dec.{eqb}
use lib.ListN.{length, get_or, take, drop, length-drop, get_or-append}
use lib.Seq.{get_or-append-add, take-add, take-take, drop-drop, length-take-le}
use Rattle.lists.specs.Lists.{all, up_to}
use Rattle.lists.proofs.Lists.Membership.{all-mapped}
use Rattle.lists.proofs.Numbers.UpTo.{map-up_to-first, map-up_to-cong}
use Rattle.matching.specs.Bytes.{always_byte, agree_byte, merge_byte}
use Rattle.matching.specs.Parts.{value_byte, care_byte, always_part, agree_part, merge_part}
use Rattle.matching.specs.Inner.Words.{number_of, bytes_of, part_of, length-bytes_of}
use Rattle.matching.proofs.Parts.Blockwise.{cond-lt, always-block, agree-block, merge-block}
use Rattle.matching.proofs.Wordwise.Bytes.{Small, small-drop, small-take, bytes_word}

-- the lowest byte and the others
by_byte : (x : ℕ) → x ≡ x / 256 * 256 + x % 256
by_byte x = omega arith

low_byte : (x : ℕ) → x % 256 < 2 ^ 8
low_byte x = omega arith

-- where nothing is cared
always-none : (v : Bool) (f : ℕ) → always_byte v f 0 ≡ true
unfolding always_byte
always-none true f = ap (λ (x : ℕ). eqb x 0) (and_zero_r f)
always-none false f = ap (λ (x : ℕ). eqb x 0) (and_zero_r f)

none_of : (i : Bool) → eqb 0 (cond i 0 0) ≡ true
none_of true = refl
none_of false = refl

agree-none : (i : Bool) (f g d : ℕ) → agree_byte i f 0 g d ≡ true
unfolding agree_byte
agree-none i f g d =
    let z : bit_and 0 d ≡ 0 = and_zero_l d in
    ap (λ (x : ℕ). eqb (bit_and (bit_xor f g) x) (cond i x 0)) z ∙ ap (λ (x : ℕ). eqb x (cond i 0 0)) (and_zero_r (bit_xor f g)) ∙ none_of i

pub merge-lt : (k f c g : ℕ) (i : Bool) → f < 2 ^ k → c < 2 ^ k → g < 2 ^ k → merge_byte i f c g < 2 ^ k
unfolding merge_byte
merge-lt k f c g i hf hc hg =
    or_lt k _ _ (xor_lt k _ _ (and_lt k f c hf hc) (cond-lt i k c hc)) (xor_lt k _ g (and_lt k g c hg hc) hg)

-- f, c, g and d by their bytes: what Q comes to at each of the w lowest
module _ {B : Type 0} (Q : ℕ → ℕ → ℕ → ℕ → B) where
  abbrev pub each : ℕ → ℕ → ℕ → ℕ → ℕ → List B
  each w f c g d =
      map (λ j. Q (get_or (bytes_of w f) j 0) (get_or (bytes_of w c) j 0) (get_or (bytes_of w g) j 0) (get_or (bytes_of w d) j 0)) (up_to w)

  each_first : (w f c g d : ℕ) → each (suc w) f c g d ≡ Q (f % 256) (c % 256) (g % 256) (d % 256) ∷ each w (f / 256) (c / 256) (g / 256) (d / 256)
  each_first w f c g d =
      map-up_to-first (λ j. Q (get_or (bytes_of (suc w) f) j 0) (get_or (bytes_of (suc w) c) j 0) (get_or (bytes_of (suc w) g) j 0)
      (get_or (bytes_of (suc w) d) j 0)) w

  -- the same, where the bytes are those of parts
  each_part : (w f c g d : ℕ)
      → map (λ j. Q (value_byte (part_of w f c) j) (care_byte w (part_of w f c) j) (value_byte (part_of w g d) j)
      (care_byte w (part_of w g d) j)) (up_to w)
      ≡ each w f c g d
  each_part w f c g d =
      let value : (x y j : ℕ) → j < w → value_byte (part_of w x y) j ≡ get_or (bytes_of w x) j 0 =
      λ x y j h. get_or-append (bytes_of w x) (bytes_of w y) 0 j (rw (length-bytes_of w x) h) in
      let care : (x y j : ℕ) → care_byte w (part_of w x y) j ≡ get_or (bytes_of w y) j 0 =
      λ x y j. ap (λ (n : ℕ). get_or (part_of w x y) (n + j) 0) (sym (length-bytes_of w x))
      ∙ get_or-append-add (bytes_of w x) (bytes_of w y) j 0 in
      map-up_to-cong w _ _ (λ j h i. Q (value f c j h i) (care f c j i) (value g d j h i) (care g d j i))

-- a test: true where no row is cared, and of several bytes true where it is of each
tested : (Q : ℕ → ℕ → ℕ → ℕ → Bool) → ((f g d : ℕ) → Q f 0 g d ≡ true)
    → ((f c g d f' c' g' d' : ℕ) → f' < 2 ^ 8 → c' < 2 ^ 8 → g' < 2 ^ 8 → d' < 2 ^ 8
    → Q (f * 2 ^ 8 + f') (c * 2 ^ 8 + c') (g * 2 ^ 8 + g') (d * 2 ^ 8 + d') ≡ (Q f' c' g' d' && Q f c g d))
    → (w f c g d : ℕ) → c < 256 ^ w → all (λ b. b) (each Q w f c g d) ≡ Q f c g d
tested Q none block zero f c g d h = sym (ap (λ (x : ℕ). Q f x g d) (lt-one h) ∙ none f g d)
tested Q none block (suc w) f c g d h =
    ap (all (λ b. b)) (each_first Q w f c g d)
    ∙ ap (λ (b : Bool). Q (f % 256) (c % 256) (g % 256) (d % 256) && b)
    (tested Q none block w (f / 256) (c / 256) (g / 256) (d / 256) (omega arith))
    ∙ sym (block (f / 256) (c / 256) (g / 256) (d / 256) (f % 256) (c % 256) (g % 256) (d % 256)
    (low_byte f) (low_byte c) (low_byte g) (low_byte d))
    ∙ sym (λ i. Q (by_byte f i) (by_byte c i) (by_byte g i) (by_byte d i))

-- an operation
made : (Q : ℕ → ℕ → ℕ → ℕ → ℕ)
    → ((f c g d f' c' g' d' : ℕ) → f' < 2 ^ 8 → c' < 2 ^ 8 → g' < 2 ^ 8 → d' < 2 ^ 8
    → (Q (f * 2 ^ 8 + f') (c * 2 ^ 8 + c') (g * 2 ^ 8 + g') (d * 2 ^ 8 + d') ≡ Q f c g d * 2 ^ 8 + Q f' c' g' d')
    × (Q f' c' g' d' < 2 ^ 8))
    → (w f c g d : ℕ) → each Q w f c g d ≡ bytes_of w (Q f c g d)
made Q block zero f c g d = refl
made Q block (suc w) f c g d =
    let (e, s) = block (f / 256) (c / 256) (g / 256) (d / 256) (f % 256) (c % 256) (g % 256) (d % 256)
    (low_byte f) (low_byte c) (low_byte g) (low_byte d) in
    let x = Q (f / 256) (c / 256) (g / 256) (d / 256) in
    let y = Q (f % 256) (c % 256) (g % 256) (d % 256) in
    let q : Q f c g d ≡ x * 256 + y = (λ i. Q (by_byte f i) (by_byte c i) (by_byte g i) (by_byte d i)) ∙ e in
    let l : Q f c g d % 256 ≡ y = omega arith in
    let h : Q f c g d / 256 ≡ x = omega arith in
    each_first Q w f c g d ∙ ap (λ (m : List ℕ). y ∷ m) (made Q block w (f / 256) (c / 256) (g / 256) (d / 256))
    ∙ sym (ap₂ (λ (a b : ℕ). a ∷ bytes_of w b) l h)

pub agree-each : (i : Bool) (w f c g d : ℕ) → c < 256 ^ w → all (λ b. b) (each (agree_byte i) w f c g d) ≡ agree_byte i f c g d
agree-each i =
    tested (agree_byte i) (λ a b e. agree-none i a b e) (λ a c b e a' c' b' e' p q r s. agree-block 8 a c a' c' p q b b' r e e' s i)

module _ (w f c : ℕ) where
  pub always-word : (v : Bool) → c < 256 ^ w → always_part v w (part_of w f c) ≡ always_byte v f c
  unfolding always_part
  always-word v h =
      sym (all-mapped (λ b. b) (λ j. always_byte v (value_byte (part_of w f c) j) (care_byte w (part_of w f c) j)) (up_to w))
      ∙ ap (all (λ b. b)) (each_part (λ a c b e. always_byte v a c) w f c 0 0)
      ∙ tested (λ a c b e. always_byte v a c) (λ a b e. always-none v a)
      (λ a c b e a' c' b' e' p q r s. always-block 8 a c a' c' p q v) w f c 0 0 h

  module _ (g d : ℕ) (i : Bool) where
    pub agree-word : c < 256 ^ w → agree_part i w (part_of w f c) (part_of w g d) ≡ agree_byte i f c g d
    unfolding agree_part
    agree-word h =
        sym (all-mapped (λ b. b) (λ j. agree_byte i (value_byte (part_of w f c) j) (care_byte w (part_of w f c) j)
        (value_byte (part_of w g d) j) (care_byte w (part_of w g d) j)) (up_to w))
        ∙ ap (all (λ b. b)) (each_part (agree_byte i) w f c g d)
        ∙ agree-each i w f c g d h

    pub merge-words : merge_part i w (part_of w f c) (part_of w g d) ≡ part_of w (merge_byte i f c g) (bit_or c d)
    unfolding merge_part
    merge-words =
        ap₂ ◌++◌
        (each_part (λ a c b e. merge_byte i a c b) w f c g d
        ∙ made (λ a c b e. merge_byte i a c b)
        (λ a c b e a' c' b' e' p q r s. (merge-block 8 a c a' c' p q b b' r i, merge-lt 8 a' c' b' i p q r)) w f c g d)
        (each_part (λ a c b e. bit_or c e) w f c g d
        ∙ made (λ a c b e. bit_or c e)
        (λ a c b e a' c' b' e' p q r s. (or_block 8 c e c' e' q s, or_lt 8 c' e' q s)) w f c g d)

-- the part that stands at a is that of the words there, of w bytes each or more
pub part-words : (w a n : ℕ) (l : List ℕ) → Small l → w ≤ n → a + w + n ≤ length l
    → take (w + w) (drop a l) ≡ part_of w (number_of (take n (drop a l))) (number_of (take n (drop (a + w) l)))
part-words w a n l h few m =
    let plane : (k : ℕ) → k + n ≤ length l → take w (drop k l) ≡ bytes_of w (number_of (take n (drop k l))) =
    λ k o. let t : length (take n (drop k l)) ≡ n = length-take-le n (drop k l) (omega (arith, length-drop k l)) in
    sym (bytes_word w (take n (drop k l)) (small-take n (drop k l) (small-drop k l h)) (omega arith) ∙ take-take w n (drop k l) few) in
    take-add w w (drop a l)
    ∙ ap₂ ◌++◌ (plane a (omega arith)) (ap (take w) (drop-drop w a l) ∙ plane (a + w) (omega arith))
