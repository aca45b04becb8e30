-- The tests and the merge on numbers of more than one row: each works on the k low bits and on the others apart, as the bit
-- operations do that it is made of. And on one row they are the filling's.
-- Assumes nothing.
use mathlib.Core.Path.{◌≡◌, refl, sym, ap, ap₂, ◌∙◌}
use mathlib.Core.Bool.{Bool, true, false, not, cond, beq, ◌&&◌, ◌||◌}
use Prim.Native.Nat.{ℕ, ◌+◌, ◌*◌, ◌^◌, ◌<◌, ◌/◌, ◌%◌}
use native.Mathlib.Nat.{zero-mul, add-zero}
use lib.Bits.{bit_and, bit_or, bit_xor, and_block, or_block, xor_block, and_lt, xor_lt}
use lib.Dec.{T, eqb, eqb→eq, eqb_refl}
use lib.Pow.{high, low, pow_pos}
use Rattle.lists.specs.Bits.{digit, flip}
use Rattle.lists.proofs.Bools.{and_T, and_l, and_r, both_ways, beq→eq}
use Rattle.matching.specs.Bytes.{always_byte, agree_byte, merge_byte}

-- two numbers are equal when their high parts are, and their low parts
eqb-block : (k a b r s : ℕ) → r < 2 ^ k → s < 2 ^ k → eqb (a * 2 ^ k + r) (b * 2 ^ k + s) ≡ (eqb r s && eqb a b)
eqb-block k a b r s hr hs =
    both_ways (eqb (a * 2 ^ k + r) (b * 2 ^ k + s)) (eqb r s && eqb a b)
    (λ t. let e : a * 2 ^ k + r ≡ b * 2 ^ k + s = eqb→eq (a * 2 ^ k + r) (b * 2 ^ k + s) t in
    let p : a ≡ b = sym (high a k hr) ∙ ap (λ x. x / 2 ^ k) e ∙ high b k hs in
    let q : r ≡ s = sym (low a k hr) ∙ ap (λ x. x % 2 ^ k) e ∙ low b k hs in
    rw (p, q) (and_T (eqb s s) (eqb b b) (eqb_refl s) (eqb_refl b)))
    (λ t. let p : a ≡ b = eqb→eq a b (and_r (eqb r s) (eqb a b) t) in
    let q : r ≡ s = eqb→eq r s (and_l (eqb r s) (eqb a b) t) in
    rw (p, q) (eqb_refl (b * 2 ^ k + s)))

pub cond-block : (i : Bool) (k c s : ℕ) → cond i (c * 2 ^ k + s) 0 ≡ cond i c 0 * 2 ^ k + cond i s 0
cond-block true k c s = refl
cond-block false k c s = sym (add-zero (0 * 2 ^ k) ∙ zero-mul (2 ^ k))

pub cond-lt : (i : Bool) (k c : ℕ) → c < 2 ^ k → cond i c 0 < 2 ^ k
cond-lt true k c h = h
cond-lt false k c h = pow_pos k

-- f and c are the high parts of a candidate's values and care, g and d of an entry's; the low parts are dashed
module _ (k f c f' c' : ℕ) (hf : f' < 2 ^ k) (hc : c' < 2 ^ k) where
  pub always-block : (v : Bool) → always_byte v (f * 2 ^ k + f') (c * 2 ^ k + c') ≡ (always_byte v f' c' && always_byte v f c)
  unfolding always_byte
  always-block v =
      ap₂ eqb (and_block k f c f' c' hf hc) (cond-block v k c c')
      ∙ eqb-block k (bit_and f c) (cond v c 0) (bit_and f' c') (cond v c' 0) (and_lt k f' c' hf hc) (cond-lt v k c' hc)

  module _ (g g' : ℕ) (hg : g' < 2 ^ k) where
    pub merge-block : (i : Bool)
        → merge_byte i (f * 2 ^ k + f') (c * 2 ^ k + c') (g * 2 ^ k + g') ≡ merge_byte i f c g * 2 ^ k + merge_byte i f' c' g'
    unfolding merge_byte
    merge-block i =
        let x = bit_and f c in
        let x' = bit_and f' c' in
        let y = bit_and g c in
        let y' = bit_and g' c' in
        let hx : x' < 2 ^ k = and_lt k f' c' hf hc in
        let hy : y' < 2 ^ k = and_lt k g' c' hg hc in
        let hi : cond i c' 0 < 2 ^ k = cond-lt i k c' hc in
        ap₂ bit_or
        (ap₂ bit_xor (and_block k f c f' c' hf hc) (cond-block i k c c') ∙ xor_block k x (cond i c 0) x' (cond i c' 0) hx hi)
        (ap (λ (z : ℕ). bit_xor z (g * 2 ^ k + g')) (and_block k g c g' c' hg hc) ∙ xor_block k y g y' g' hy hg)
        ∙ or_block k (bit_xor x (cond i c 0)) (bit_xor y g) (bit_xor x' (cond i c' 0)) (bit_xor y' g')
        (xor_lt k x' (cond i c' 0) hx hi) (xor_lt k y' g' hy hg)

    pub agree-block : (d d' : ℕ) → d' < 2 ^ k → (i : Bool)
        → agree_byte i (f * 2 ^ k + f') (c * 2 ^ k + c') (g * 2 ^ k + g') (d * 2 ^ k + d') ≡ (agree_byte i f' c' g' d' && agree_byte i f c g d)
    unfolding agree_byte
    agree-block d d' hd i =
        let m = bit_and c d in
        let m' = bit_and c' d' in
        let hm : m' < 2 ^ k = and_lt k c' d' hc hd in
        let hx : bit_xor f' g' < 2 ^ k = xor_lt k f' g' hf hg in
        ap₂ (λ (x y : ℕ). eqb (bit_and x y) (cond i y 0)) (xor_block k f g f' g' hf hg) (and_block k c d c' d' hc hd)
        ∙ ap₂ eqb (and_block k (bit_xor f g) m (bit_xor f' g') m' hx hm) (cond-block i k m m')
        ∙ eqb-block k (bit_and (bit_xor f g) m) (cond i m 0) (bit_and (bit_xor f' g') m') (cond i m' 0)
        (and_lt k (bit_xor f' g') m' hx hm) (cond-lt i k m' hm)

-- one row, tried at every value of its bits

abbrev both : (Bool → Bool) → Bool
both p = p true && p false

both_at : (p : Bool → Bool) → T (both p) → (b : Bool) → T (p b)
both_at p t true = and_l (p true) (p false) t
both_at p t false = and_r (p true) (p false) t

abbrev pub Bits : Type 0
Bits = Bool → Bool → Bool → Bool → Bool → Bool

abbrev pub every : Bits → Bool
every p = both (λ i. both (λ a. both (λ c. both (λ b. both (λ d. p i a c b d)))))

pub every-at : (p : Bits) → T (every p) → (i a c b d : Bool) → T (p i a c b d)
every-at p t i a c b d =
    both_at (p i a c b) (both_at (λ b. both (λ d. p i a c b d)) (both_at (λ c. both (λ b. both (λ d. p i a c b d)))
    (both_at (λ a. both (λ c. both (λ b. both (λ d. p i a c b d))))
    (both_at (λ i. both (λ a. both (λ c. both (λ b. both (λ d. p i a c b d))))) t i) a) c) b) d

pub always-digit : (v a c : Bool) → always_byte v (digit a) (digit c) ≡ (not c || beq a v)
unfolding always_byte
always-digit v a c =
    beq→eq (always_byte v (digit a) (digit c)) (not c || beq a v)
    (every-at (λ v a c b d. beq (always_byte v (digit a) (digit c)) (not c || beq a v)) tt v a c true true)

pub agree-digit : (i a c b d : Bool) → agree_byte i (digit a) (digit c) (digit b) (digit d) ≡ (not (c && d) || beq (flip i a) b)
unfolding agree_byte
agree-digit i a c b d =
    beq→eq (agree_byte i (digit a) (digit c) (digit b) (digit d)) (not (c && d) || beq (flip i a) b)
    (every-at (λ i a c b d. beq (agree_byte i (digit a) (digit c) (digit b) (digit d))
    (not (c && d) || beq (flip i a) b)) tt i a c b d)

pub merge-digit : (i a c b : Bool) → merge_byte i (digit a) (digit c) (digit b) ≡ digit (cond c (flip i a) b)
unfolding merge_byte
merge-digit i a c b =
    eqb→eq (merge_byte i (digit a) (digit c) (digit b)) (digit (cond c (flip i a) b))
    (every-at (λ i a c b d. eqb (merge_byte i (digit a) (digit c) (digit b)) (digit (cond c (flip i a) b))) tt i a c b true)

pub or-digit : (c d : Bool) → bit_or (digit c) (digit d) ≡ digit (c || d)
or-digit true true = refl
or-digit true false = refl
or-digit false true = refl
or-digit false false = refl
