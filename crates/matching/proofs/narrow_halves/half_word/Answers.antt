-- A half of 64 rows is a word, and a smaller one lies in a word. Assumes nothing.
use Rattle.std.proofs.Common.{◌≡◌, ap, ◌∙◌, ℕ, ◌*◌, ◌≤◌, ◌<◌, arith}
use lib.Arith.{lt_of_le-ne}
use Rattle.matching.specs.Parts.{half_byte}
use Rattle.matching.proofs.Linking.Along.{bool-digit}
use Rattle.matching.proofs.Wordwise.HalfWords.{half-in-word, half-is-word}
use Rattle.matching.proofs.narrow_halves.half_word.Goals as goal

pub returns-then-d-eq6 : goal.returns-then-d-eq6
returns-then-d-eq6 c =
    let a = c.args in
    c.word_at.ensures
    ∙ half-is-word a.b a.d a.a a.work.now (λ i. (c.type_inv.work i).fits) (c.from.result * 8) c.if-d-eq6.true
    (ap (λ (n : ℕ). n * 8) (c.from.ensures ∙ bool-digit a.b))

few : (d : ℕ) → d ≤ 6 → (d ≡ 6 → ⊥) → d ≤ 5
few d h n = let l : d < 6 = lt_of_le-ne h n in omega arith

pub returns : goal.returns
returns c =
    let a = c.args in
    c.half_bits.ensures ∙ ap (half_byte a.b a.d) c.word_at-2.ensures
    ∙ half-in-word a.b a.d a.a a.work.now (λ i. (c.type_inv.work i).fits) (few a.d c.requires.variables c.if-d-eq6.false)
