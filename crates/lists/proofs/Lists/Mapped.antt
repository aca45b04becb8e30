-- Lists that a function makes of lists.
-- Assumes nothing.
use mathlib.Core.Path.{◌≡◌, refl, ap, ap₂}
use mathlib.Core.Bool.{Bool}
use mathlib.Core.List.{List, [], ◌∷◌, map}
use Prim.Native.Nat.{ℕ}
use lib.Dec.{T}
use Rattle.lists.specs.Lists.{all}
use Rattle.lists.proofs.Bools.{and_l, and_r}

-- two functions that agree wherever a test holds give the same list
pub map-where : (p : ℕ → Bool) (f g : ℕ → ℕ) (xs : List ℕ) → T (all p xs) → ((x : ℕ) → T (p x) → f x ≡ g x) → map f xs ≡ map g xs
map-where p f g [] t e = refl
map-where p f g (x ∷ xs) t e =
    ap₂ (λ (y : ℕ) (ys : List ℕ). y ∷ ys) (e x (and_l (p x) (all p xs) t)) (map-where p f g xs (and_r (p x) (all p xs) t) e)

pub map-twice : (f g : ℕ → ℕ) (xs : List ℕ) → map f (map g xs) ≡ map (λ x. f (g x)) xs
map-twice f g [] = refl
map-twice f g (x ∷ xs) = ap (λ (ys : List ℕ). f (g x) ∷ ys) (map-twice f g xs)
