-- `yavdocsil::answer::answer_word` meets its contract: neither the product nor the sum is too large.
-- Assumes nothing.
use mathlib.Core.Path.{ap₂}
use Prim.Native.Nat.{ℕ, ◌+◌, ◌*◌}
use native.Mathlib.Omega.{arith}
use Rattle.table.proofs.Variants.{number-few}
use Rattle.yavdocsil.specs.Words.{value_limit, answer_word}
use Rattle.yavdocsil.proofs.answer.answer_word.Goals as goal

pub overflow_mul-result : goal.overflow_mul-result
overflow_mul-result c =
    omega (arith, number-few c.args.answer)

pub overflow_add-result : goal.overflow_add-result
overflow_add-result c =
    omega (arith, number-few c.args.answer)

pub returns : goal.returns
unfolding answer_word
returns c =
    ap₂ (λ (x y : ℕ). x * value_limit + y) c.number_of.ensures c.value_of.ensures
