-- The tests that compare lists tell whether two are equal.
-- Assumes nothing.
use mathlib.Core.Path.{◌≡◌, refl, ap₂}
use mathlib.Core.Bool.{Bool, beq}
use mathlib.Core.List.{List, [], ◌∷◌}
use lib.Dec.{T, eqb}
use Rattle.lists.specs.Lists.{equal}
use Rattle.lists.proofs.Bools.{and_T, and_l, and_r, beq→eq, beq-refl}
use Rattle.lists.proofs.Lists.Membership.{Equality, eqb-equality}

pub beq-equality : Equality beq
beq-equality = record { sound = beq→eq; self = beq-refl }

module _ {A : Type 0} {eq : A → A → Bool} (E : Equality eq) where
  equal-sound : (xs ys : List A) → T (equal eq xs ys) → xs ≡ ys
  equal-sound [] [] t = refl
  equal-sound [] (y ∷ ys) t = absurd t
  equal-sound (x ∷ xs) [] t = absurd t
  equal-sound (x ∷ xs) (y ∷ ys) t =
      ap₂ ◌∷◌ (E.sound x y (and_l (eq x y) (equal eq xs ys) t)) (equal-sound xs ys (and_r (eq x y) (equal eq xs ys) t))

  equal-self : (xs : List A) → T (equal eq xs xs)
  equal-self [] = tt
  equal-self (x ∷ xs) = and_T (eq x x) (equal eq xs xs) (E.self x) (equal-self xs)

  pub equal-equality : Equality (equal eq)
  equal-equality = record { sound = equal-sound; self = equal-self }

pub numbers-equality : Equality (equal eqb)
numbers-equality = equal-equality eqb-equality

-- lists of bits
pub rows-equality : Equality (equal (equal beq))
rows-equality = equal-equality (equal-equality beq-equality)
