-- A list stored over the front of another, one element after the other.
-- Assumes nothing.
use mathlib.Core.Path.{◌≡◌, ap, sym, ◌∙◌}
use mathlib.Core.List.{List, ◌++◌, [], ◌∷◌}
use Prim.Native.Nat.{ℕ, suc, ◌+◌, ◌≤◌, ◌<◌}
use native.Mathlib.Nat.{zero-add}
use native.Mathlib.Numerals.{add-one}
use native.Mathlib.Omega.{arith}
use lib.ListN.{length, get_or, set, take, drop}
use lib.Seq.{take_all, paste-suc, take-suc-set}
use Rattle.lists.proofs.Lists.Grown.{take_more}

-- a list stored over the front of another, one element after the other
pub paste_more : (xs l : List ℕ) (i : ℕ) → i < length xs → i < length l
    → set (take i xs ++ drop i l) i (get_or xs i 0) ≡ take (i + 1) xs ++ drop (i + 1) l
paste_more xs l i h k = rw (add-one i) (rw (zero-add i, zero-add (suc i)) at (paste-suc l 0 xs i 0 (omega arith) h))

pub paste_all : (xs l : List ℕ) (i : ℕ) → length xs ≤ i → take i xs ++ drop i l ≡ xs ++ drop i l
paste_all xs l i h = ap (λ (ys : List ℕ). ys ++ drop i l) (take_all i xs h)

-- one number more is copied
pub copied_more : (from to : List ℕ) (i : ℕ) → i < length from → i < length to → take i to ≡ take i from
    → take (i + 1) (set to i (get_or from i 0)) ≡ take (i + 1) from
copied_more from to i f t e =
    rw (add-one i) (take-suc-set to i (get_or from i 0) t) ∙ ap (λ (l : List ℕ). l ++ (get_or from i 0 ∷ [])) e ∙ sym (take_more from i f)
