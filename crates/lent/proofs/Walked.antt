-- A walk over a slice or a range that tests each item: std's words for the items and the test, as crate lists has them.
-- Assumes nothing.
use Rattle.std.specs.List.{list_all, range_with_len}
use mathlib.Core.Path.{◌≡◌, refl, ap, ap₂, ◌∙◌}
use mathlib.Core.Bool.{Bool, ◌&&◌}
use mathlib.Core.List.{List, [], ◌∷◌, ◌++◌}
use Prim.Native.Nat.{ℕ, zero, suc, ◌+◌}
use native.Mathlib.Omega.{arith}
use Rattle.lists.specs.Lists.{all, up_to}

-- two tests that agree on each item
pub all-walked : (p q : ℕ → Bool) → ((x : ℕ) → p x ≡ q x) → (xs : List ℕ) → list_all p xs ≡ all q xs
all-walked p q e [] = refl
all-walked p q e (x ∷ xs) = ap₂ ◌&&◌ (e x) (all-walked p q e xs)

range-more : (a n : ℕ) → range_with_len a (suc n) ≡ range_with_len a n ++ ((a + n) ∷ [])
range-more a zero = ap (λ (k : ℕ). k ∷ []) (omega arith)
range-more a (suc n) =
    let e : a + 1 + n ≡ a + suc n = omega arith in
    ap (λ (l : List ℕ). a ∷ l) (range-more (a + 1) n ∙ ap (λ (k : ℕ). range_with_len (a + 1) n ++ (k ∷ [])) e)

range-up_to : (n : ℕ) → range_with_len 0 n ≡ up_to n
range-up_to zero = refl
range-up_to (suc n) =
    let e : 0 + n ≡ n = omega arith in
    range-more 0 n ∙ ap₂ (λ (l : List ℕ) (k : ℕ). l ++ (k ∷ [])) (range-up_to n) e

-- the numbers below n
pub range-walked : (p : ℕ → Bool) (n : ℕ) → list_all p (range_with_len 0 n) ≡ all p (up_to n)
range-walked p n = all-walked p p (λ x. refl) (range_with_len 0 n) ∙ ap (all p) (range-up_to n)
