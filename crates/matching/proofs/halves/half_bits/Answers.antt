-- By a shift and a mask. Assumes nothing.
use Rattle.std.proofs.Common.{◌≡◌, ap, ◌∙◌, ℕ, ◌*◌, ◌/◌, ◌%◌, ◌-◌, ◌^◌, ◌≤◌, ◌<◌, bit_and, arith}
use Rattle.matching.specs.Parts.{half_byte}
use Rattle.lists.proofs.Bits.Digits.{one_shifted}
use Rattle.matching.proofs.Linking.Along.{bool-digit}
use Rattle.matching.proofs.Wordwise.HalfWords.{half-masked}
use Rattle.matching.proofs.halves.half_bits.Goals as goal
use Rattle.matching.proofs.halves.half_bits.Goals.{After-from}

masked : (c : After-from)
    → let a = c.args in
    let r = 1 * 2 ^ a.d % 2 ^ 64 in
    let s = c.from.result * r in
    (r < 64) × (s < 64) × (1 ≤ 1 * 2 ^ r % 2 ^ 64) × (bit_and (a.x / 2 ^ s) (1 * 2 ^ r % 2 ^ 64 - 1) ≡ half_byte a.b a.d a.x)
masked c =
    let a = c.args in
    let r = 1 * 2 ^ a.d % 2 ^ 64 in
    half-masked a.b a.d r (c.from.result * r) a.x c.requires (one_shifted a.d (omega arith))
    (ap (λ (n : ℕ). n * r) (c.from.ensures ∙ bool-digit a.b))

pub overflow_shr-result : goal.overflow_shr-result
overflow_shr-result c = (masked (goal.at.overflow_shr-result c).After-from).1

pub overflow_shl-result : goal.overflow_shl-result
overflow_shl-result c = (masked (goal.at.overflow_shl-result c).After-from).0

pub overflow_sub-result : goal.overflow_sub-result
overflow_sub-result c = (masked (goal.at.overflow_sub-result c).After-from).2

pub returns : goal.returns
returns c = (masked (goal.at.returns c).After-from).3
