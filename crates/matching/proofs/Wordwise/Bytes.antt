-- Laws of bytes as one number, the first byte the lowest.
-- Assumes nothing.
use mathlib.Core.Path.{◌≡◌, refl, sym, ap, ap₂, ◌∙◌}
use mathlib.Core.List.{List, [], ◌∷◌}
use Prim.Native.Nat.{ℕ, zero, suc, ◌+◌, ◌*◌, ◌-◌, ◌/◌, ◌%◌, ◌^◌, ◌≤◌, ◌<◌}
use native.Mathlib.Nat.{not-suc-le-zero, div-one, mod-one, zero-div, zero-mod}
use native.Mathlib.Omega.{arith}
use lib.ListN.{length, get_or, take, drop}
use native.Mathlib.Numerals.{add-one}
use lib.Pow.{mod-pow-add, shr-shr, pow-add, shl_exact}
use lib.Seq.{drop-drop, get_or-drop}
use Rattle.matching.specs.Inner.Words.{number_of, bytes_of}

-- every element is a byte
abbrev pub Small : List ℕ → Type 0
Small l = (j : ℕ) → get_or l j 0 < 256

pub small-drop : (n : ℕ) (l : List ℕ) → Small l → Small (drop n l)
small-drop zero l h = h
small-drop (suc n) [] h = h
small-drop (suc n) (b ∷ l) h = small-drop n l (λ j. h (suc j))

pub small-take : (n : ℕ) (l : List ℕ) → Small l → Small (take n l)
small-take zero l h j = omega arith
small-take (suc n) [] h j = h j
small-take (suc n) (b ∷ l) h zero = h 0
small-take (suc n) (b ∷ l) h (suc j) = small-take n l (λ j. h (suc j)) j

-- how large the number of bytes is
some-power : (k : ℕ) → 0 < 256 ^ k
some-power zero = omega arith
some-power (suc k) = omega (arith, some-power k)

pub word_lt : (n k : ℕ) (l : List ℕ) → Small l → n ≤ k → number_of (take n l) < 256 ^ k
word_lt zero k l h m = some-power k
word_lt (suc n) zero l h m = absurd (not-suc-le-zero m)
word_lt (suc n) (suc k) [] h m = some-power (suc k)
word_lt (suc n) (suc k) (b ∷ l) h m = omega (arith, h 0, word_lt n k l (λ j. h (suc j)) (omega arith))

-- the lowest bytes of a number of bytes, and the number of bytes of a number
pub bytes_word : (w : ℕ) (l : List ℕ) → Small l → w ≤ length l → bytes_of w (number_of l) ≡ take w l
bytes_word zero l h n = refl
bytes_word (suc w) [] h n = absurd (not-suc-le-zero n)
bytes_word (suc w) (b ∷ l) h n =
    let p : (b + 256 * number_of l) % 256 ≡ b = omega (arith, h 0) in
    let q : (b + 256 * number_of l) / 256 ≡ number_of l = omega (arith, h 0) in
    ap₂ (λ (x y : ℕ). x ∷ bytes_of w y) p q ∙ ap (λ (y : List ℕ). b ∷ y) (bytes_word w l (λ j. h (suc j)) (omega arith))

-- the number of the first n bytes, and of those behind them, out of that of all
pub word-take : (n : ℕ) (l : List ℕ) → Small l → number_of (take n l) ≡ number_of l % 2 ^ (8 * n)
word-take zero l h = sym (mod-one (number_of l))
word-take (suc n) [] h = sym (zero-mod (2 ^ (8 * suc n)))
word-take (suc n) (b ∷ l) h =
    let x = b + 256 * number_of l in
    let e : 8 * suc n ≡ 8 * n + 8 = omega arith in
    let p : x % 256 ≡ b = omega (arith, h 0) in
    let q : x / 256 ≡ number_of l = omega (arith, h 0) in
    let t : x % 2 ^ (8 * n + 8) ≡ (number_of l % 2 ^ (8 * n)) * 256 + b =
    mod-pow-add x (8 * n) 8 ∙ ap₂ (λ (y z : ℕ). (y % 2 ^ (8 * n)) * 256 + z) q p in
    ap (λ (y : ℕ). b + 256 * y) (word-take n l (λ j. h (suc j))) ∙ omega (arith, t) ∙ ap (λ (k : ℕ). x % 2 ^ k) (sym e)

pub word-drop : (n : ℕ) (l : List ℕ) → Small l → number_of (drop n l) ≡ number_of l / 2 ^ (8 * n)
word-drop zero l h = sym (div-one (number_of l))
word-drop (suc n) [] h = sym (zero-div (2 ^ (8 * suc n)))
word-drop (suc n) (b ∷ l) h =
    let x = b + 256 * number_of l in
    let e : 8 * suc n ≡ 8 + 8 * n = omega arith in
    let q : x / 256 ≡ number_of l = omega (arith, h 0) in
    word-drop n l (λ j. h (suc j)) ∙ ap (λ (y : ℕ). y / 2 ^ (8 * n)) (sym q) ∙ shr-shr x 8 (8 * n) ∙ ap (λ (k : ℕ). x / 2 ^ k) (sym e)

pub bytes-power : (w : ℕ) → 256 ^ w ≡ 2 ^ (8 * w)
bytes-power zero = refl
bytes-power (suc w) =
    let e : 8 * suc w ≡ 8 + 8 * w = omega arith in
    omega (arith, bytes-power w, pow-add 2 8 (8 * w), ap (λ (k : ℕ). 2 ^ k) e)

-- one byte more on top
number-snoc : (l : List ℕ) (j : ℕ) → j < length l → number_of (take (suc j) l) ≡ number_of (take j l) + get_or l j 0 * 256 ^ j
number-snoc [] j h = absurd (not-suc-le-zero h)
number-snoc (b ∷ l) zero h = omega arith
number-snoc (b ∷ l) (suc j) h =
    let e : 256 ^ suc j ≡ 256 * 256 ^ j = omega arith in
    omega (arith, number-snoc l j (omega arith), ap (λ (n : ℕ). get_or l j 0 * n) e)

-- the same where the byte is shifted up in a word
pub byte-more : (l : List ℕ) (j x : ℕ) → Small l → j < length l → length l ≤ 8 → x ≡ number_of (take j l)
    → (x + get_or l j 0 * 2 ^ (8 * j) % 2 ^ 64 < 2 ^ 64) × (x + get_or l j 0 * 2 ^ (8 * j) % 2 ^ 64 ≡ number_of (take (j + 1) l))
byte-more l j x h in_List few e =
    let s : get_or l j 0 * 2 ^ (8 * j) % 2 ^ 64 ≡ get_or l j 0 * 2 ^ (8 * j) = shl_exact 8 (8 * j) 64 (h j) (omega arith) in
    let p : get_or l j 0 * 256 ^ j ≡ get_or l j 0 * 2 ^ (8 * j) = ap (λ (n : ℕ). get_or l j 0 * n) (bytes-power j) in
    let q : number_of (take (suc j) l) ≡ number_of (take (j + 1) l) = ap (λ (n : ℕ). number_of (take n l)) (sym (add-one j)) in
    omega (arith, s, p, q, e, number-snoc l j in_List, word_lt (suc j) 8 l h (omega arith))

module _ (w x j rest : ℕ) (h : j < w) (p : drop j (bytes_of w x) ≡ bytes_of (w - j) rest) where
  cut : drop j (bytes_of w x) ≡ rest % 256 ∷ bytes_of (w - (j + 1)) (rest / 256)
  cut = let e : w - j ≡ suc (w - (j + 1)) = omega arith in p ∙ ap (λ (n : ℕ). bytes_of n rest) e

  pub rest-byte : get_or (bytes_of w x) j 0 ≡ rest % 256
  rest-byte =
      let e : j ≡ j + 0 = omega arith in
      ap (λ (n : ℕ). get_or (bytes_of w x) n 0) e ∙ sym (get_or-drop j (bytes_of w x) 0 0) ∙ ap (λ (l : List ℕ). get_or l 0 0) cut

  pub rest_more : drop (j + 1) (bytes_of w x) ≡ bytes_of (w - (j + 1)) (rest / 256)
  rest_more = sym (drop-drop 1 j (bytes_of w x)) ∙ ap (drop 1) cut
