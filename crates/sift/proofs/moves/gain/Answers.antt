-- `sift::moves::gain` meets its contract. Both counts are far below half of what 32 bits hold, so each is read back as it is, and the
-- difference fits.
-- Assumes nothing.
use borrow.Author.Rules.{rules}
use mathlib.Core.Path.{ap₂, ◌∙◌}
use Prim.Native.Nat.{ℕ, ◌^◌, ◌≤◌}
use native.Mathlib.Omega.{arith}
use lib.IntN.{ℤ, ◌-ℤ◌}
use mir.Syntax.{w32}
use mir.Val.{SFits, to_z}
use mir.ValLaws.{to_z-of_z, to_z_pos}
use Rattle.lists.proofs.Numbers.Differences.{difference-mag}
use Rattle.diagram.specs.Networks.Bound.{most_nodes}
use Rattle.sift.proofs.moves.gain.Goals as goal

-- the difference of any two counts
fits : (a b : ℕ) → a ≤ most_nodes → b ≤ most_nodes → SFits w32 (to_z w32 a -ℤ to_z w32 b)
fits a b h k =
    rw (to_z_pos w32 a (omega arith), to_z_pos w32 b (omega arith))
    (record { sfits = difference-mag a b (2 ^ 31) (omega arith) (omega arith) })

pub overflow_sub-result : goal.overflow_sub-result
overflow_sub-result c =
    search (rules, fits)

pub returns : goal.returns
returns c =
    let a = c.args in
    to_z-of_z w32 _ (overflow_sub-result c)
    ∙ ap₂ (λ (x y : ℤ). x -ℤ y) (to_z_pos w32 a.moved (omega arith)) (to_z_pos w32 a.present (omega arith))
