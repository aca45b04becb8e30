-- The bytes of a plane, and a plane that is written over.
-- Assumes nothing.
use mathlib.Core.Path.{◌≡◌, refl, sym, ap, ap₂, ◌∙◌}
use mathlib.Core.List.{List, [], ◌++◌, map, append-nil}
use Prim.Native.Nat.{ℕ, ◌≤◌}
use native.Mathlib.Omega.{arith}
use lib.ListN.{length, take, drop, length-take, drop_of_length-le}
use Rattle.lists.specs.Lists.{up_to}
use Rattle.lists.specs.Written.{over}
use Rattle.lists.proofs.Written.Over.{length_over}
use Rattle.table.specs.Calls.{plane_size}

-- the bytes of a whole plane
pub plane-size : plane_size ≡ 2048
unfolding plane_size
plane-size = refl

-- a plane that is written over as far as byte i
-- a plane of which the front is written over
pub plane-written : (f : ℕ → ℕ) (l front : List ℕ) (i : ℕ) → plane_size ≤ length l → i ≡ length (take 2048 l)
    → front ≡ over f i (take 2048 l) → front ++ drop 2048 l ≡ over f plane_size l
plane-written f l front i h d e =
    let k : length (take 2048 l) ≡ plane_size = omega (arith, plane-size, length-take 2048 l) in
    let z : drop i (take 2048 l) ≡ [] = drop_of_length-le (take 2048 l) {i = i} (omega arith) in
    ap (λ (m : List ℕ). m ++ drop 2048 l)
    (e ∙ ap (λ (m : List ℕ). map f (up_to i) ++ m) z ∙ append-nil (map f (up_to i)))
    ∙ ap₂ (λ (j n : ℕ). map f (up_to j) ++ drop n l) (d ∙ k) (sym plane-size)
