-- Laws of widths and of the halves of parts.
-- Assumes nothing.
use mathlib.Core.Path.{◌≡◌, ap, ap₂, ◌∙◌}
use mathlib.Core.Bool.{Bool, true, false, cond}
use mathlib.Core.List.{List, [], ◌∷◌, ◌++◌}
use mathlib.Core.Logic.{◌⊎◌, inl, inr}
use Prim.Native.Nat.{ℕ, zero, suc, ◌+◌, ◌*◌, ◌-◌, ◌%◌, ◌^◌, ◌≤◌, ◌<◌}
use native.Mathlib.Nat.{le_of_lt, mul-mod_right}
use native.Mathlib.Omega.{arith}
use borrow.Author.Tests.{lt-ltb, le-ltb, ltb-true, ltb-false, leb-true, leb-false}
use lib.Dec.{leb, ltb, lit<}
use lib.Pow.{pow-add, pow_mono}
use lib.ListN.{length, get_or, take, drop, length-drop, length-append}
use lib.Seq.{take-take, drop-drop, length-take-le, get_or-take, get_or-drop}
use Rattle.lists.specs.Bits.{digit}
use Rattle.lists.proofs.Bools.{split}
use Rattle.lists.proofs.Bits.Digits.{digit-part-le}
use Rattle.lists.proofs.Written.Splice.{drop-take}
use Rattle.reorder.specs.Sizes.{width}
use Rattle.matching.specs.Parts.{half_byte, half_part}
use Rattle.reorder.proofs.Pack.{width_small, width-suc, width-rows, by_width}

width-pos-step : (b : Bool) (n : ℕ) → 0 < n → 0 < cond b 1 (n + n)
width-pos-step true n h = lit< tt
width-pos-step false n h = omega arith

-- a width is at least one byte
pub width-pos : (d : ℕ) → 0 < width d
width-pos zero = lit< tt
width-pos (suc d) = width-pos-step (ltb d 3) (width d) (width-pos d)

-- the bytes of up to 64 rows are a word at the most, and those of more are whole words
pub width_narrow : (d : ℕ) → d ≤ 6 → width d ≤ 8
width_narrow d h =
    by_width d (λ k. omega (arith, width_small d (le_of_lt k))) (λ k. omega (arith, width-rows d k, pow_mono {j = 6} h))

pub width-whole : (d : ℕ) → 6 ≤ d → width d % 8 ≡ 0
width-whole d h =
    let e : d ≡ 6 + (d - 6) = omega arith in
    let q : 2 ^ d ≡ 64 * 2 ^ (d - 6) = ap (λ (k : ℕ). 2 ^ k) e ∙ pow-add 2 6 (d - 6) in
    let w : width d ≡ 8 * 2 ^ (d - 6) = omega (arith, width-rows d (omega arith)) in
    ap (λ (k : ℕ). k % 8) w ∙ mul-mod_right 8 (2 ^ (d - 6))

pub width-words : (d : ℕ) → (width d ≤ 8) ⊎ (width d % 8 ≡ 0)
width-words d = split (leb d 6) (λ e. inl (width_narrow d (leb-true d 6 e))) (λ e. inr (width-whole d (le_of_lt (leb-false d 6 e))))

-- the rows of d variables, where a byte holds as many twice
pub shift_small : (d : ℕ) → d < 3 → 1 * 2 ^ d % 18446744073709551616 < 8
shift_small zero h = lit< tt
shift_small (suc zero) h = lit< tt
shift_small (suc (suc zero)) h = lit< tt
shift_small (suc (suc (suc d))) h = absurd (omega arith)

-- below a byte a half has a byte of values and a byte of care
half-bits : (b : Bool) (d : ℕ) (part : List ℕ) → d < 3
    → half_part b d part ≡ half_byte b d (get_or part 0 0) ∷ half_byte b d (get_or part 1 0) ∷ []
unfolding half_part
half-bits b d part h =
    let e = lt-ltb d 3 h in
    rw e (ap₂ (λ (x y : ℕ). half_byte b d x ∷ half_byte b d y ∷ []) (get_or-take 1 part 0 0 (lit< tt)) (get_or-drop 1 part 0 0))

-- bytes

-- w bytes of half b, of values and of care
half-bytes : (b : Bool) (d : ℕ) (part : List ℕ) → 3 ≤ d
    → half_part b d part
    ≡ take (width d) (drop (digit b * width d) part) ++ take (width d) (drop (width d + width d + digit b * width d) part)
unfolding half_part
half-bytes b d part h =
    let e = le-ltb d 3 h in
    let w = width d in
    let n = digit b * w in
    let m : w + w ≡ n + (w + w - n) = omega (arith, digit-part-le b w) in
    rw e
    (ap₂ ◌++◌
    (ap (λ (y : ℕ). take w (drop n (take y part))) m
    ∙ ap (take w) (drop-take n (w + w - n) part)
    ∙ take-take w (w + w - n) (drop n part) (omega (arith, digit-part-le b w)))
    (ap (take w) (drop-drop n (w + w) part)))

taken-length : (w n : ℕ) (part : List ℕ) → n + w ≤ length part → length (take w (drop n part)) ≡ w
taken-length w n part h = length-take-le w (drop n part) (omega (arith, length-drop n part))

-- a half has the width of its rows
pub length-half : (b : Bool) (d : ℕ) (part : List ℕ) → length part ≡ width (suc d) + width (suc d)
    → length (half_part b d part) ≡ width d + width d
length-half b d part h =
    let w = width d in
    split (ltb d 3)
    (λ e. let s = ltb-true d 3 e in ap length (half-bits b d part s) ∙ omega (arith, width_small d (omega arith)))
    (λ e. let s = ltb-false d 3 e in
    let t = width-suc d s in
    let i = digit-part-le b w in
    ap length (half-bytes b d part s)
    ∙ length-append (take w (drop (digit b * w) part)) (take w (drop (w + w + digit b * w) part))
    ∙ ap₂ ◌+◌ (taken-length w (digit b * w) part (omega arith)) (taken-length w (w + w + digit b * w) part (omega arith)))
