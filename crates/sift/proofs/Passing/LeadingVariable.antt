-- Who leads by the most, found from the last variable to the first: a variable that has as many takes the lead of those behind it.
-- Assumes nothing.
use mathlib.Core.Path.{◌≡◌, refl, sym, ap, ap₂, ◌∙◌}
use mathlib.Core.Bool.{Bool, true, false, not, cond}
use mathlib.Core.List.{List, [], ◌∷◌}
use Prim.Native.Nat.{ℕ, ◌+◌, ◌≤◌, ◌<◌, zero-le}
use native.Mathlib.Numerals.{add-one}
use native.Mathlib.Omega.{arith}
use borrow.Author.Tests.{lt-ltb, le-ltb, ltb-true, ltb-false}
use lib.Dec.{eqb, ltb}
use lib.ListN.{drop, drop_of_length-le}
use lib.Seq.{drop-cons}
use Rattle.lists.specs.Lists.{keep, up_to}
use Rattle.lists.specs.Most.{most_of, most}
use Rattle.lists.proofs.Bools.{split}
use Rattle.lists.proofs.Lists.Membership.{eqb-equality, has_here}
use Rattle.lists.proofs.Numbers.Compared.{length-up_to}
use Rattle.lists.proofs.Numbers.Most.{most-most}
use Rattle.lists.proofs.Numbers.UpTo.{get_or-up_to}
use Rattle.sift.specs.declared.choice.Lead.{Lead}
use Rattle.sift.specs.Inner.Choice.{overtaken}

-- a marked variable takes no lead, nor does one with fewer

pub overtaken-marked : (l : Lead) (v nodes : ℕ) (marked : Bool) → marked ≡ true → overtaken l v nodes marked ≡ l
unfolding overtaken
overtaken-marked l v nodes marked e = rw e

pub overtaken-fewer : (l : Lead) (v nodes : ℕ) (marked : Bool) → marked ≡ false → nodes < l.nodes → overtaken l v nodes marked ≡ l
unfolding overtaken
overtaken-fewer l v nodes marked e h = rw (e, lt-ltb nodes l.nodes h)

pub overtaken-more : (l : Lead) (v nodes : ℕ) (marked : Bool) → marked ≡ false → l.nodes ≤ nodes
    → overtaken l v nodes marked ≡ record { variable = v; nodes = nodes }
unfolding overtaken
overtaken-more l v nodes marked e h = rw (e, le-ltb nodes l.nodes h)

-- the most of a list, with v before it

module _ (f : ℕ → ℕ) where
  -- x leads of w and m, y of v and m: then v leads x unless x has more
  leads : (v w m x y : ℕ) → f w ≤ f x → x ≡ cond (ltb (f w) (f m)) m w → y ≡ cond (ltb (f v) (f m)) m v
      → cond (ltb (f v) (f w)) x y ≡ cond (ltb (f v) (f x)) x v
  leads v w m x y top p q =
      split (ltb (f v) (f w))
      (λ e. let more : ltb (f v) (f x) ≡ true = lt-ltb (f v) (f x) (omega (arith, ltb-true (f v) (f w) e)) in rw (e, more))
      (λ e. let l : f w ≤ f v = ltb-false (f v) (f w) e in
      rw e
      (split (ltb (f w) (f m))
      (λ d. let same : x ≡ m = rw d at p in q ∙ ap (λ (z : ℕ). cond (ltb (f v) (f z)) z v) (sym same))
      (λ d. let same : x ≡ w = rw d at p in
      let k : f m ≤ f w = ltb-false (f w) (f m) d in
      let none : ltb (f v) (f m) ≡ false = le-ltb (f v) (f m) (omega arith) in
      let none' : ltb (f v) (f x) ≡ false = le-ltb (f v) (f x) (omega (arith, ap f same)) in
      rw none' (rw none at q))))

  -- the first of v and a list with the most is the list's where that has more than v
  most_of-behind : (v w : ℕ) (ws : List ℕ) → most_of f v (w ∷ ws) ≡ cond (ltb (f v) (f (most_of f w ws))) (most_of f w ws) v
  most_of-behind v w [] = refl
  most_of-behind v w (x ∷ ws) =
      leads v w (most_of f x ws) (most_of f w (x ∷ ws)) (most_of f v (x ∷ ws))
      (most-most f (w ∷ x ∷ ws) w (has_here eqb eqb-equality w (x ∷ ws))) (most_of-behind w x ws) (most_of-behind v x ws)

  -- the first with the most, and its number; 0 and 0 of none
  abbrev pub leading : List ℕ → Lead
  leading [] = record { variable = 0; nodes = 0 }
  leading (v ∷ vs) = record { variable = most_of f v vs; nodes = f (most_of f v vs) }

  pub leading-most : (vs : List ℕ) → (leading vs).variable ≡ most f vs
  leading-most [] = refl
  leading-most (v ∷ vs) = refl

  lead-by : (v m x : ℕ) → x ≡ cond (ltb (f v) (f m)) m v
      → record { variable = x; nodes = f x } ≡ overtaken (record { variable = m; nodes = f m }) v (f v) false
  unfolding overtaken
  lead-by v m x e =
      split (ltb (f v) (f m))
      (λ d. let same : x ≡ m = rw d at e in rw d (ap {B = Lead} (λ z. record { variable = z; nodes = f z }) same))
      (λ d. let same : x ≡ v = rw d at e in rw d (ap {B = Lead} (λ z. record { variable = z; nodes = f z }) same))

  leading-cons : (v : ℕ) (vs : List ℕ) → leading (v ∷ vs) ≡ overtaken (leading vs) v (f v) false
  leading-cons v [] = sym (overtaken-more (leading []) v (f v) false refl zero-le)
  leading-cons v (w ∷ ws) = lead-by v (most_of f w ws) (most_of f v (w ∷ ws)) (most_of-behind v w ws)

  -- one variable more, marked or not
  leading-keep : (marked : ℕ → Bool) (v : ℕ) (vs : List ℕ)
      → leading (keep (λ w. not (marked w)) (v ∷ vs)) ≡ overtaken (leading (keep (λ w. not (marked w)) vs)) v (f v) (marked v)
  leading-keep marked v vs =
      split (marked v) (λ e. rw e (sym (overtaken-marked (leading (keep (λ w. not (marked w)) vs)) v (f v) true refl)))
      (λ e. rw e (leading-cons v (keep (λ w. not (marked w)) vs)))

-- the numbers from v to n - 1

from-none : (n : ℕ) → drop n (up_to n) ≡ []
from-none n = drop_of_length-le (up_to n) {i = n} (omega (arith, length-up_to n))

from_cons : (n v : ℕ) → v < n → drop v (up_to n) ≡ v ∷ drop (v + 1) (up_to n)
from_cons n v h =
    drop-cons (up_to n) v 0 (omega (arith, length-up_to n))
    ∙ ap₂ (λ (x k : ℕ). x ∷ drop k (up_to n)) (get_or-up_to n v h) (sym (add-one v))

-- the lead of the variables from v on that are not marked

module _ (f : ℕ → ℕ) (marked : ℕ → Bool) (n : ℕ) where
  pub lead-none : (l : Lead) → l ≡ record { variable = 0; nodes = 0 } → l ≡ leading f (keep (λ w. not (marked w)) (drop n (up_to n)))
  lead-none l e = e ∙ ap (λ (vs : List ℕ). leading f (keep (λ w. not (marked w)) vs)) (sym (from-none n))

  pub lead-more : (v : ℕ) → v < n → (l m : Lead) → l ≡ leading f (keep (λ w. not (marked w)) (drop (v + 1) (up_to n)))
      → m ≡ overtaken l v (f v) (marked v) → m ≡ leading f (keep (λ w. not (marked w)) (drop v (up_to n)))
  lead-more v h l m e d =
      d ∙ ap (λ (x : Lead). overtaken x v (f v) (marked v)) e
      ∙ sym (leading-keep f marked v (drop (v + 1) (up_to n)))
      ∙ ap (λ (vs : List ℕ). leading f (keep (λ w. not (marked w)) vs)) (sym (from_cons n v h))

  pub lead-all : (l : Lead) → l ≡ leading f (keep (λ w. not (marked w)) (drop 0 (up_to n)))
      → l.variable ≡ most f (keep (λ w. not (marked w)) (up_to n))
  lead-all l e = ap (λ (x : Lead). x.variable) e ∙ leading-most f (keep (λ w. not (marked w)) (up_to n))
