-- Laws of packed rows: how long a plane is, where it is one byte and where it is two planes one after the other, and how large its
-- bytes are.
-- Assumes nothing.
use mathlib.Core.Path.{◌≡◌, refl, ap, ap₂, ◌∙◌}
use mathlib.Core.Bool.{Bool, true, false}
use mathlib.Core.List.{[], ◌∷◌, ◌++◌}
use Prim.Native.Nat.{ℕ, zero, suc, ◌+◌, ◌*◌, ◌^◌, ◌≤◌, ◌<◌}
use native.Mathlib.Nat.{two-pow-succ, not-suc-le-zero}
use native.Mathlib.Omega.{arith}
use lib.Arith.{digits_lt, le→nltb}
use lib.Dec.{ltb, ltb→lt, lt→ltb, nltb→le}
use lib.ListN.{length, length-append}
use lib.Pow.{pow-add}
use Rattle.lists.proofs.Bools.{split, of_T, of-not, to-T, to-not}
use Rattle.lists.proofs.Bits.Digits.{digit-le}
use Rattle.diagram.specs.Tree.{Tree, leaf, node}
use Rattle.diagram.specs.Filling.Fill.{Row}
use Rattle.reorder.specs.Sizes.{width}
use Rattle.reorder.specs.Pack.{num, pack, encode}

-- how many bytes: one up to three variables, from there on twice as many for each variable more

pub width_small : (d : ℕ) → d ≤ 3 → width d ≡ 1
width_small zero h = refl
width_small (suc d) h = let e : ltb d 3 ≡ true = of_T (lt→ltb d 3 h) in rw e

pub width-suc : (d : ℕ) → 3 ≤ d → width (suc d) ≡ width d + width d
width-suc d h = let e : ltb d 3 ≡ false = of-not (le→nltb d 3 h) in rw e

pub width-rows : (d : ℕ) → 3 ≤ d → width d * 8 ≡ 2 ^ d
width-rows zero h = absurd (not-suc-le-zero h)
width-rows (suc d) h =
    split (ltb d 3) (λ e. let k : d < 3 = ltb→lt d 3 (to-T e) in let q : d ≡ 2 = omega arith in rw q)
    (λ e. let k : 3 ≤ d = nltb→le d 3 (to-not e) in omega (arith, width-suc d k, width-rows d k))

-- one variable more makes one byte, or two halves
pub by_width : {X : Type 0} (d : ℕ) → (suc d ≤ 3 → X) → (3 ≤ d → X) → X
by_width d f g = split (ltb d 3) (λ e. f (ltb→lt d 3 (to-T e))) (λ e. g (nltb→le d 3 (to-not e)))

module _ {A : Type 0} (p : A → Bool) where
  pub pack-small : {d : ℕ} (t : Tree A d) → d ≤ 3 → pack p t ≡ num p t ∷ []
  pack-small (leaf x) h = refl
  pack-small (node {d} l r) h = let e : ltb d 3 ≡ true = of_T (lt→ltb d 3 h) in rw e

  pub pack-node : {d : ℕ} (l h : Tree A d) → 3 ≤ d → pack p (node l h) ≡ pack p l ++ pack p h
  pack-node {d} l h k = let e : ltb d 3 ≡ false = of-not (le→nltb d 3 k) in rw e

  pub pack-length : {d : ℕ} (t : Tree A d) → length (pack p t) ≡ width d
  pack-length (leaf x) = refl
  pack-length (node {d} l h) =
      split (ltb d 3) (λ e. rw e) (λ e. rw e (length-append (pack p l) (pack p h) ∙ ap₂ ◌+◌ (pack-length l) (pack-length h)))

  pub num-lt : {d : ℕ} (t : Tree A d) → num p t < 2 ^ (2 ^ d)
  num-lt (leaf x) = omega (arith, digit-le (p x))
  num-lt (node {d} l h) =
      let e : 2 ^ (2 ^ suc d) ≡ 2 ^ (2 ^ d) * 2 ^ (2 ^ d) = ap (λ k. 2 ^ k) (two-pow-succ d) ∙ pow-add 2 (2 ^ d) (2 ^ d) in
      rw e (digits_lt (num-lt h) (num-lt l))

-- a part: its values, then its care

pub encode-length : {d : ℕ} (t : Tree Row d) → length (encode t) ≡ width d + width d
encode-length t =
    length-append (pack (λ r. r.value) t) (pack (λ r. r.care) t)
    ∙ ap₂ ◌+◌ (pack-length (λ r. r.value) t) (pack-length (λ r. r.care) t)
