-- The counts of one level in a list that has room for those of all levels.
-- Assumes nothing.
use mathlib.Core.Path.{◌≡◌, ◌∙◌}
use mathlib.Core.List.{List}
use Prim.Native.Nat.{ℕ, ◌+◌, ◌*◌, ◌≤◌, ◌<◌}
use native.Mathlib.Omega.{arith}
use lib.ListN.{length, get_or, drop, length-drop}
use lib.Seq.{length-take-le, get_or-take, get_or-drop}
use Rattle.diagram.specs.Networks.Bound.{most_variables}
use Rattle.fill.specs.Calls.{counts_size, counts_of}
use Rattle.fill.proofs.Lowered.TrialSizes.{counts-size}

module _ (cs : List ℕ) (p : ℕ) (level : p < most_variables) (room : counts_size ≤ length cs) where
  pub level-room : most_variables * p + most_variables ≤ length cs
  level-room = omega (arith, counts-size, room)

  pub level-length : length (counts_of p cs) ≡ most_variables
  level-length =
      length-take-le most_variables (drop (most_variables * p) cs) (omega (arith, level-room, length-drop (most_variables * p) cs))

  pub level-at : (l : ℕ) → l < most_variables → get_or (counts_of p cs) l 0 ≡ get_or cs (most_variables * p + l) 0
  level-at l h = get_or-take most_variables (drop (most_variables * p) cs) l 0 h ∙ get_or-drop (most_variables * p) cs l 0
