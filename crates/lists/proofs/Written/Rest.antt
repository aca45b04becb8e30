-- The first n elements of a list, from element j on.
-- Assumes nothing.
use mathlib.Core.Path.{◌≡◌, ap, ◌∙◌}
use mathlib.Core.List.{List, [], ◌∷◌}
use Prim.Native.Nat.{ℕ, suc, ◌≤◌, ◌<◌}
use native.Mathlib.Omega.{arith}
use lib.ListN.{length, get_or, take, drop, drop_of_length-le}
use lib.Seq.{length-take-le, drop-cons, get_or-take}

-- the first n entries of an array, from entry j on
abbrev pub rest : List ℕ → ℕ → ℕ → List ℕ
rest l n j = drop j (take n l)

pub rest-cons : (l : List ℕ) (n j : ℕ) → n ≤ length l → j < n → rest l n j ≡ get_or l j 0 ∷ rest l n (suc j)
rest-cons l n j k h =
    drop-cons (take n l) j 0 (omega (arith, length-take-le n l k)) ∙ ap (λ (x : ℕ). x ∷ rest l n (suc j)) (get_or-take n l j 0 h)

pub rest-none : (l : List ℕ) (n j : ℕ) → n ≤ length l → n ≤ j → rest l n j ≡ []
rest-none l n j k h = drop_of_length-le (take n l) {i = j} (omega (arith, length-take-le n l k))
