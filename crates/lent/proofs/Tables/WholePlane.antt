-- A plane whose first part a loop has written over, byte after byte, with the rest behind it.
-- Assumes nothing.
use mathlib.Core.Path.{◌≡◌, ap, ◌∙◌}
use mathlib.Core.List.{List, ◌++◌, append-nil}
use Prim.Native.Nat.{ℕ, ◌≤◌}
use native.Mathlib.Omega.{arith}
use lib.ListN.{length, take, drop, drop_of_length-le}
use lib.Seq.{length-take-le}
use Rattle.lists.specs.Written.{over}

module _ (f : ℕ → ℕ) (size : ℕ) (plane part : List ℕ) (long : size ≤ length plane) (i : ℕ) (written : part ≡ over f i (take size plane)) where
  pub plane-over : i ≡ size → part ++ drop size plane ≡ over f size plane
  plane-over e =
      let n = length-take-le size plane long in
      let part-is : part ≡ over f size (take size plane) = written ∙ ap (λ (k : ℕ). over f k (take size plane)) e in
      rw (part-is, drop_of_length-le (take size plane) {i = size} (omega arith), append-nil)
