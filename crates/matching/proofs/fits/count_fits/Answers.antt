-- Two parts of d variables take four planes. Assumes nothing.
use Rattle.std.proofs.Common.{◌≡◌, sym, ap, ◌∙◌, ℕ, suc, ◌+◌, ◌*◌, ◌<◌, arith}
use native.Mathlib.Nat.{le_of_lt}
use lib.Dec.{leb}
use Rattle.diagram.specs.Networks.Bound.{most_variables}
use Rattle.reorder.specs.Sizes.{width, width_up_to}
use Rattle.reorder.proofs.Shifts.{width-met, width-up-room, part-size}
use Rattle.matching.specs.Links.{region_size}
use Rattle.matching.specs.Fits.{count_fits}
use Rattle.matching.proofs.Buffers.Fitting.{halves-counted}
use Rattle.matching.proofs.Linking.LinkedHalves.{part-width}
use Rattle.matching.proofs.Parts.PartHalves.{width-pos}
use Rattle.matching.proofs.fits.count_fits.Goals as goal

pub overflow_mul-width_of : goal.overflow_mul-width_of
overflow_mul-width_of c = omega (arith, c.width_of.ensures, width-up-room (c.args.d + 1), part-size)

pub blocks_fit-requires : goal.blocks_fit-requires
blocks_fit-requires c =
    omega (arith, part-width c.args.d c.width_of.result c.requires c.width_of.ensures, width-pos (suc c.args.d))

pub overflow_mul-width_of-then-blocks_fit : goal.overflow_mul-width_of-then-blocks_fit
overflow_mul-width_of-then-blocks_fit c = omega (arith, c.width_of-then-blocks_fit.ensures, width-up-room c.args.d, part-size)

pub blocks_fit-requires-then-blocks_fit : goal.blocks_fit-requires-then-blocks_fit
blocks_fit-requires-then-blocks_fit c =
    omega (arith, c.width_of-then-blocks_fit.ensures ∙ width-met c.args.d (le_of_lt c.requires), width-pos c.args.d)

-- the parts as they are, by what is tested
whole : (d count r : ℕ) → d < most_variables → r ≡ width_up_to (d + 1)
    → leb (0 + count * (2 * r)) region_size ≡ leb (count * (width (suc d) + width (suc d))) region_size
whole d count r h e =
    let p : 0 + count * (2 * r) ≡ count * (width (suc d) + width (suc d)) =
    let q : 2 * r ≡ width (suc d) + width (suc d) = omega (arith, part-width d r h e) in
    omega (arith, ap (λ (n : ℕ). count * n) q) in
    ap (λ (n : ℕ). leb n region_size) p

pub returns-then-blocks_fit : goal.returns-then-blocks_fit
unfolding count_fits
returns-then-blocks_fit c =
    let a = c.args in
    let d = a.d in
    let one = sym (whole d a.count c.width_of.result c.requires c.width_of.ensures) ∙ sym c.blocks_fit.ensures ∙ c.if-blocks_fit.true in
    let zero : 0 + a.count * (4 * c.width_of-then-blocks_fit.result) ≡ a.count * (4 * c.width_of-then-blocks_fit.result) = omega arith in
    rw one
    (c.blocks_fit-then-blocks_fit.ensures
    ∙ ap (λ (n : ℕ). leb n region_size) zero
    ∙ halves-counted a.count c.width_of-then-blocks_fit.result region_size
    ∙ ap (λ (n : ℕ). leb ((a.count + a.count) * (n + n)) region_size)
    (c.width_of-then-blocks_fit.ensures ∙ width-met d (le_of_lt c.requires)))

pub returns-else-blocks_fit : goal.returns-else-blocks_fit
unfolding count_fits
returns-else-blocks_fit c =
    let a = c.args in
    let none = sym (whole a.d a.count c.width_of.result c.requires c.width_of.ensures) ∙ sym c.blocks_fit.ensures ∙ c.if-blocks_fit.false in
    rw (none, c.if-blocks_fit.false)
