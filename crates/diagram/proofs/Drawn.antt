-- What stands at a row of a drawn tree: what is drawn at the row's number.
-- Assumes nothing.
use mathlib.Core.Path.{◌≡◌, refl, sym, ap, ◌∙◌}
use mathlib.Core.Bool.{Bool, true, false, cond}
use Prim.Native.Nat.{ℕ, zero, suc, ◌+◌, ◌*◌}
use native.Mathlib.Nat.{add-zero, zero-add}
use native.Mathlib.Omega.{arith}
use Rattle.lists.specs.Bits.{digit, row_number}
use Rattle.diagram.specs.Tree.{draw, at}

pub draw-step : {A : Type 0} (d p s : ℕ) (f : ℕ → A) (a : ℕ → Bool) (c : Bool)
    → cond c (at (suc p) a (draw d f (2 * s + 1))) (at (suc p) a (draw d f (2 * s))) ≡ at (suc p) a (draw d f (2 * s + digit c))
draw-step d p s f a true = refl
draw-step d p s f a false = ap (λ (k : ℕ). at (suc p) a (draw d f k)) (sym (add-zero (2 * s)))

pub at-draw : {A : Type 0} (d p : ℕ) (f : ℕ → A) (a : ℕ → Bool) → at p a (draw d f (row_number p a)) ≡ f (row_number (p + d) a)
at-draw zero p f a = ap (λ (k : ℕ). f (row_number k a)) (sym (add-zero p))
at-draw (suc d) p f a =
    let e : suc p + d ≡ p + suc d = omega arith in
    draw-step d p (row_number p a) f a (a p) ∙ at-draw d (suc p) f a ∙ ap (λ (k : ℕ). f (row_number k a)) e

pub at-drawn : {A : Type 0} (n : ℕ) (f : ℕ → A) (a : ℕ → Bool) → at 0 a (draw n f 0) ≡ f (row_number n a)
at-drawn n f a = at-draw n 0 f a ∙ ap (λ (k : ℕ). f (row_number k a)) (zero-add n)
