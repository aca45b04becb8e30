-- The numbers of a list, added up.
-- Assumes nothing.
use mathlib.Core.Path.{◌≡◌, refl, sym, ap, ◌∙◌}
use mathlib.Core.List.{List, [], ◌∷◌, ◌++◌, sum}
use Prim.Native.Nat.{ℕ, ◌+◌, ◌≤◌, ◌<◌}
use native.Mathlib.Nat.{add_assoc, add-zero}
use native.Mathlib.Omega.{arith}
use native.Mathlib.Numerals.{add-one}
use lib.ListN.{length, get_or, drop, drop_of_length-le}
use lib.Seq.{drop-cons}

pub sum-cons : (x : ℕ) (xs : List ℕ) → sum ◌+◌ 0 (x ∷ xs) ≡ x + sum ◌+◌ 0 xs
unfolding sum
sum-cons x xs = refl

pub sum-snoc : (xs : List ℕ) (x : ℕ) → sum ◌+◌ 0 (xs ++ (x ∷ [])) ≡ sum ◌+◌ 0 xs + x
unfolding sum
sum-snoc [] x = omega arith
sum-snoc (y ∷ xs) x = ap (λ (n : ℕ). y + n) (sum-snoc xs x) ∙ sym (add_assoc y (sum ◌+◌ 0 xs) x)

module _ (counts : List ℕ) (cells p : ℕ) (so_far : cells + sum ◌+◌ 0 (drop p counts) ≡ sum ◌+◌ 0 counts) where
  pub sum_more : p < length counts → (cells + get_or counts p 0) + sum ◌+◌ 0 (drop (p + 1) counts) ≡ sum ◌+◌ 0 counts
  sum_more h =
      add_assoc cells (get_or counts p 0) (sum ◌+◌ 0 (drop (p + 1) counts))
      ∙ ap (λ (y : ℕ). cells + y)
      (sym (ap (sum ◌+◌ 0) (drop-cons counts p 0 h ∙ ap (λ (j : ℕ). get_or counts p 0 ∷ drop j counts) (sym (add-one p)))
      ∙ sum-cons (get_or counts p 0) (drop (p + 1) counts)))
      ∙ so_far

  pub sum-all : length counts ≤ p → cells ≡ sum ◌+◌ 0 counts
  unfolding sum
  sum-all h =
      sym (add-zero cells) ∙ ap (λ (xs : List ℕ). cells + sum ◌+◌ 0 xs) (sym (drop_of_length-le counts {i = p} h)) ∙ so_far
