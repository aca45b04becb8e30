-- A part of d + 2 variables has two planes. Assumes nothing.
use Rattle.std.proofs.Common.{◌≡◌, true, false, ap, ◌∙◌, ℕ, suc, ◌+◌, ◌*◌, ◌≤◌, arith}
use borrow.Author.Tests.{le-leb, lt-leb}
use lib.Dec.{leb}
use Rattle.diagram.specs.Networks.Bound.{most_variables}
use Rattle.reorder.specs.Sizes.{width, width_up_to}
use Rattle.reorder.proofs.Shifts.{width-met, width-up-room, part-size}
use Rattle.matching.specs.Fits.{parts_fit}
use Rattle.matching.proofs.Parts.PartHalves.{width-pos}
use Rattle.matching.proofs.fits.parts_fit.Goals as goal

pub overflow_mul-width_of : goal.overflow_mul-width_of
overflow_mul-width_of c = omega (arith, c.width_of.ensures, width-up-room (c.args.d + 2), part-size)

-- the bytes of a plane
wide : (d r : ℕ) → d ≤ 8 → r ≡ width_up_to (d + 2) → r ≡ width (suc (suc d))
wide d r h e =
    let two : d + 2 ≡ suc (suc d) = omega arith in
    e ∙ width-met (d + 2) (omega arith) ∙ ap width two

pub blocks_fit-requires : goal.blocks_fit-requires
blocks_fit-requires c =
    omega (arith, wide c.args.d c.width_of.result c.if-d.true c.width_of.ensures, width-pos (suc (suc c.args.d)))

pub returns-then-d : goal.returns-then-d
unfolding parts_fit
returns-then-d c =
    let a = c.args in
    let w = width (suc (suc a.d)) in
    let e : 2 * c.width_of.result ≡ w + w = omega (arith, wide a.d c.width_of.result c.if-d.true c.width_of.ensures) in
    let few : leb (a.d + 2) most_variables ≡ true = le-leb (a.d + 2) most_variables (omega arith) in
    rw few (c.blocks_fit.ensures ∙ ap (λ (s : ℕ). leb (a.from + a.count * s) a.len) e)

pub returns-else-d : goal.returns-else-d
unfolding parts_fit
returns-else-d c =
    let d = c.args.d in
    let many : leb (d + 2) most_variables ≡ false = lt-leb (d + 2) most_variables (omega arith) in
    let more : leb d 8 ≡ false = lt-leb d 8 c.if-d.false in
    rw (many, more)
