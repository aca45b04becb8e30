-- A number's text reads back as that number: twenty digits are enough for it.
-- Assumes nothing.
use mathlib.Core.Path.{◌≡◌, refl, ◌∙◌}
use mathlib.Core.List.{List, [], ◌∷◌, ◌++◌}
use Prim.Native.Nat.{ℕ, zero, suc, ◌+◌, ◌*◌, ◌-◌, ◌/◌, ◌%◌, ◌^◌, ◌<◌}
use native.Mathlib.Omega.{arith}
use lib.Dec.{ltb, ltb→lt}
use Rattle.lists.proofs.Bools.{split}
use Rattle.text.specs.Text.{digits, decimal}

-- the digits read on, where the ones before stand for `value`
abbrev pub read_on : ℕ → List ℕ → ℕ
read_on value [] = value
read_on value (b ∷ bs) = read_on (10 * value + (b - 48)) bs

read-last : (v : ℕ) (xs : List ℕ) (b : ℕ) → read_on v (xs ++ (b ∷ [])) ≡ 10 * read_on v xs + (b - 48)
read-last v [] b = refl
read-last v (x ∷ xs) b = read-last (10 * v + (x - 48)) xs b

small : (x : ℕ) → x < 10 → read_on 0 ((48 + x % 10) ∷ []) ≡ x
small x h = omega arith

digits-back : (f x : ℕ) → x < 10 ^ suc f → read_on 0 (digits f x) ≡ x
digits-back zero x h = small x (omega (arith, h))
digits-back (suc f) x h =
    split (ltb x 10) (λ e. rw e (small x (ltb→lt x 10 (rw e tt))))
    (λ e. rw e
    (let k : x / 10 < 10 ^ suc f = omega (arith, h) in
    let r : read_on 0 (digits f (x / 10)) ≡ x / 10 = digits-back f (x / 10) k in
    read-last 0 (digits f (x / 10)) (48 + x % 10) ∙ omega (arith, r)))

pub decimal-back : (x : ℕ) → x < 10 ^ 20 → read_on 0 (decimal x) ≡ x
unfolding decimal
decimal-back x h = digits-back 19 x h
