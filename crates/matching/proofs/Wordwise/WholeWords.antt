-- Parts of whole words: the test of a candidate f and an entry's part g at w bytes of values is made of the tests of their words, one after
-- the other. What differs is gathered in a number that is 0 where nothing does.
-- Assumes nothing.
use mathlib.Core.Path.{◌≡◌, sym, ap, ap₂, ◌∙◌}
use mathlib.Core.Bool.{Bool, true, false, ◌&&◌}
use mathlib.Core.List.{List, map}
use Prim.Native.Nat.{ℕ, ◌+◌, ◌≤◌, ◌<◌}
use native.Mathlib.Omega.{arith}
use lib.Bits.{bit_and, bit_or, bit_xor, and_le_l, and_le_r, or_add_and, xor_add_and, xor_self}
use lib.Dec.{eqb, eqb→eq, eqb_refl}
use lib.ListN.{length, get_or, take, drop, length-drop}
use lib.Seq.{get_or-take, get_or-drop, length-take-le, take_all}
use Rattle.lists.specs.Lists.{all, up_to}
use Rattle.lists.proofs.Bools.{and_l, and_r, both_ways}
use Rattle.lists.proofs.Lists.Membership.{all-mapped, all-append-and}
use Rattle.lists.proofs.Numbers.UpTo.{map-up_to-add, map-up_to-cong}
use Rattle.matching.specs.Bytes.{agree_byte}
use Rattle.matching.specs.Parts.{value_byte, care_byte}
use Rattle.matching.specs.Inner.Words.{number_of, bytes_of}
use Rattle.matching.proofs.Wordwise.Bytes.{Small, small-drop, small-take, word_lt, bytes_word}
use Rattle.matching.proofs.Wordwise.PartWords.{agree-each}

-- nothing in either number
or-none : (x y : ℕ) → eqb (bit_or x y) 0 ≡ (eqb x 0 && eqb y 0)
or-none x y =
    both_ways (eqb (bit_or x y) 0) (eqb x 0 && eqb y 0)
    (λ t. let e : bit_or x y ≡ 0 = eqb→eq (bit_or x y) 0 t in
    let p : x ≡ 0 = omega (arith, or_add_and x y, and_le_r x y) in
    let q : y ≡ 0 = omega (arith, or_add_and x y, and_le_l x y) in
    rw (p, q) tt)
    (λ t. let p : x ≡ 0 = eqb→eq x 0 (and_l (eqb x 0) (eqb y 0) t) in
    let q : y ≡ 0 = eqb→eq y 0 (and_r (eqb x 0) (eqb y 0) t) in
    rw (p, q) tt)

-- nothing in which two numbers differ
xor-none : (x y : ℕ) → eqb (bit_xor x y) 0 ≡ eqb x y
xor-none x y =
    both_ways (eqb (bit_xor x y) 0) (eqb x y)
    (λ t. let e : bit_xor x y ≡ 0 = eqb→eq (bit_xor x y) 0 t in
    let p : x ≡ y = omega (arith, xor_add_and x y, and_le_l x y, and_le_r x y) in
    rw p (eqb_refl y))
    (λ t. let p : x ≡ y = eqb→eq x y t in rw (p, xor_self y) tt)

-- byte n of the word at a
word_byte : (l : List ℕ) (a n : ℕ) → Small l → a + 8 ≤ length l → n < 8 → get_or (bytes_of 8 (number_of (take 8 (drop a l)))) n 0 ≡ get_or l (a + n) 0
word_byte l a n h m o =
    let t : length (take 8 (drop a l)) ≡ 8 = length-take-le 8 (drop a l) (omega (arith, length-drop a l)) in
    ap (λ (y : List ℕ). get_or y n 0)
    (bytes_word 8 (take 8 (drop a l)) (small-take 8 (drop a l) (small-drop a l h)) (omega arith)
    ∙ take_all 8 (take 8 (drop a l)) (omega arith))
    ∙ get_or-take 8 (drop a l) n 0 o ∙ get_or-drop a l n 0

-- the test of byte k
abbrev pub byte_test : Bool → ℕ → List ℕ → List ℕ → ℕ → Bool
byte_test i w f g k = agree_byte i (value_byte f k) (care_byte w f k) (value_byte g k) (care_byte w g k)

-- eight bytes more
all-eight : (p : ℕ → Bool) (j : ℕ) → all p (up_to (j + 8)) ≡ (all p (up_to j) && all (λ b. b) (map (λ n. p (j + n)) (up_to 8)))
all-eight p j =
    sym (all-mapped (λ b. b) p (up_to (j + 8))) ∙ ap (all (λ b. b)) (map-up_to-add p j 8)
    ∙ all-append-and (λ b. b) (map p (up_to j)) (map (λ n. p (j + n)) (up_to 8))
    ∙ ap (λ (b : Bool). b && all (λ b. b) (map (λ n. p (j + n)) (up_to 8))) (all-mapped (λ b. b) p (up_to j))

-- the words of f at j, and of the part at the front of l
module _ (w : ℕ) (f l : List ℕ) (j : ℕ) (small-f : Small f) (small-l : Small l) (long : length f ≡ w + w)
    (in_List : w + w ≤ length l) (more : j + 8 ≤ w) (i : Bool) where
  abbrev part : List ℕ
  part = take (w + w) l

  abbrev Words : (ℕ → ℕ → ℕ → ℕ → Type 0) → Type 0
  Words P =
      P (number_of (take 8 (drop j f))) (number_of (take 8 (drop (w + j) f))) (number_of (take 8 (drop j l)))
      (number_of (take 8 (drop (w + j) l)))

  eight : Words (λ x c y d. all (λ b. b) (map (λ n. byte_test i w f part (j + n)) (up_to 8)) ≡ agree_byte i x c y d)
  eight =
      let value : (n : ℕ) → n < 8 → value_byte part (j + n) ≡ get_or (bytes_of 8 (number_of (take 8 (drop j l)))) n 0 =
      λ n h. get_or-take (w + w) l (j + n) 0 (omega arith) ∙ sym (word_byte l j n small-l (omega arith) h) in
      let care : (n : ℕ) → n < 8 → care_byte w part (j + n) ≡ get_or (bytes_of 8 (number_of (take 8 (drop (w + j) l)))) n 0 =
      λ n h. let e : w + (j + n) ≡ w + j + n = omega arith in
      get_or-take (w + w) l (w + (j + n)) 0 (omega arith) ∙ ap (λ (m : ℕ). get_or l m 0) e
      ∙ sym (word_byte l (w + j) n small-l (omega arith) h) in
      let own : (n : ℕ) → n < 8 → care_byte w f (j + n) ≡ get_or (bytes_of 8 (number_of (take 8 (drop (w + j) f)))) n 0 =
      λ n h. let e : w + (j + n) ≡ w + j + n = omega arith in
      ap (λ (m : ℕ). get_or f m 0) e ∙ sym (word_byte f (w + j) n small-f (omega arith) h) in
      ap (all (λ b. b))
      (map-up_to-cong 8 _ _ (λ n h k. agree_byte i (sym (word_byte f j n small-f (omega arith) h) k) (own n h k) (value n h k) (care n h k)))
      ∙ agree-each i 8 _ _ _ _ (word_lt 8 8 (drop (w + j) f) (small-drop (w + j) f small-f) (omega arith))

  -- x has what differs in the bytes before j, y what does in the words
  pub gathered : (x y : ℕ) → eqb x 0 ≡ all (byte_test i w f part) (up_to j) → Words (λ m c n d. eqb y 0 ≡ agree_byte i m c n d)
      → eqb (bit_or x y) 0 ≡ all (byte_test i w f part) (up_to (j + 8))
  gathered x y p q =
      or-none x y ∙ ap₂ ◌&&◌ p (q ∙ sym eight) ∙ sym (all-eight (byte_test i w f part) j)

-- what differs in words
module _ (f c g d x b : ℕ) (is_x : x ≡ bit_and (bit_xor f g) b) (is_b : b ≡ bit_and c d) where
  pub plain-words : eqb x 0 ≡ agree_byte false f c g d
  unfolding agree_byte
  plain-words = ap (λ (y : ℕ). eqb y 0) (is_x ∙ ap (bit_and (bit_xor f g)) is_b)

  pub inverted-words : eqb (bit_xor x b) 0 ≡ agree_byte true f c g d
  unfolding agree_byte
  inverted-words = xor-none x b ∙ ap (λ (y : ℕ). eqb y b) is_x ∙ ap (λ (y : ℕ). eqb (bit_and (bit_xor f g) y) y) is_b
