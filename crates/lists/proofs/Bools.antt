-- Tests as types, and cases on a test.
-- Assumes nothing.
use mathlib.Core.Path.{◌≡◌, refl, sym, subst}
use mathlib.Core.Bool.{Bool, true, false, not, beq, ◌&&◌, ◌||◌}
use mathlib.Core.Logic.{◌⊎◌, inl, inr}
use lib.Dec.{T}
use Rattle.lists.specs.Bits.{flip}

-- by what a test comes to, with the equation
pub split {ℓ} : {X : Type ℓ} (b : Bool) → (b ≡ true → X) → (b ≡ false → X) → X
split true f g = f refl
split false f g = g refl

pub of_T : {b : Bool} → T b → b ≡ true
of_T {b = true} t = refl
of_T {b = false} t = absurd t

pub of-not : {b : Bool} → T (not b) → b ≡ false
of-not {b = true} t = absurd t
of-not {b = false} t = refl

pub to-T : {b : Bool} → b ≡ true → T b
to-T e = subst T (sym e) tt

pub to-not : {b : Bool} → b ≡ false → T (not b)
to-not e = subst (λ (x : Bool). T (not x)) (sym e) tt

pub absurd-T {ℓ} : {X : Type ℓ} {b : Bool} → T b → b ≡ false → X
absurd-T t e = absurd (subst T e t)

pub and_T : (a b : Bool) → T a → T b → T (a && b)
and_T true b s t = t
and_T false b s t = absurd s

pub and_l : (a b : Bool) → T (a && b) → T a
and_l true b t = tt
and_l false b t = absurd t

pub and_r : (a b : Bool) → T (a && b) → T b
and_r true b t = t
and_r false b t = absurd t

pub or_l : (a b : Bool) → T a → T (a || b)
or_l true b t = tt
or_l false b t = absurd t

pub or_r : (a b : Bool) → T b → T (a || b)
or_r true b t = tt
or_r false b t = t

pub or_cases : (a b : Bool) → T (a || b) → T a ⊎ T b
or_cases true b t = inl tt
or_cases false b t = inr t

pub flip-flip : (i b : Bool) → flip i (flip i b) ≡ b
flip-flip true true = refl
flip-flip true false = refl
flip-flip false b = refl

pub flip-self : (b : Bool) → flip b b ≡ false
flip-self true = refl
flip-self false = refl

pub beq→eq : (a b : Bool) → T (beq a b) → a ≡ b
beq→eq true true t = refl
beq→eq true false t = absurd t
beq→eq false true t = absurd t
beq→eq false false t = refl

pub beq-refl : (a : Bool) → T (beq a a)
beq-refl true = tt
beq-refl false = tt

pub both_ways : (a b : Bool) → (T a → T b) → (T b → T a) → a ≡ b
both_ways true b f g = sym (of_T (f tt))
both_ways false true f g = absurd (g tt)
both_ways false false f g = refl
