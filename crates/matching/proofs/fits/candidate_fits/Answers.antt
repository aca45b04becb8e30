-- A part of d variables has two planes. Assumes nothing.
use Rattle.std.proofs.Common.{◌≡◌, true, false, ◌&&◌, sym, ap, ◌∙◌, ℕ, ◌+◌, ◌*◌, arith}
use borrow.Author.Tests.{le-leb, lt-leb, eq-eqb, ne_eqb}
use lib.Dec.{leb, eqb}
use Rattle.diagram.specs.Networks.Bound.{most_variables}
use Rattle.reorder.specs.Sizes.{width}
use Rattle.reorder.proofs.Shifts.{width-met, width-up-room, part-size}
use Rattle.matching.specs.Links.{region_size, word_size}
use Rattle.matching.specs.Fits.{candidate_fits}
use Rattle.matching.proofs.Buffers.Fitting.{region_word, one_more, in_turn}
use Rattle.matching.proofs.Parts.PartHalves.{width-pos}
use Rattle.matching.proofs.fits.candidate_fits.Goals as goal
use Rattle.matching.proofs.fits.candidate_fits.Goals.{Joined-blocks_fit}
use Rattle.matching.proofs.fits.candidate_fits.Goals.{then-size-s, else-size-s, then-blocks_fit, else-blocks_fit}

pub overflow_mul-s : goal.overflow_mul-s
overflow_mul-s c = omega (arith, c.width_of-s.ensures, width-up-room c.args.d, part-size)

pub returns-then-d-gt-VARIABLES : goal.returns-then-d-gt-VARIABLES
unfolding candidate_fits
returns-then-d-gt-VARIABLES c = let many = lt-leb c.args.d most_variables c.if-d-gt-VARIABLES.true in rw many

pub blocks_fit-requires-then-blocks_fit : goal.blocks_fit-requires-then-blocks_fit
blocks_fit-requires-then-blocks_fit c =
    omega (arith, c.width_of-s.ensures ∙ width-met c.args.d c.if-d-gt-VARIABLES.false, width-pos c.args.d)

-- what the first two tests come to, and the third too
two : (c : Joined-blocks_fit) → c.width_of-s.result ≡ width c.args.d
    → c.if-size-s.value ≡ (eqb c.args.size (width c.args.d + width c.args.d) && leb (c.args.to + region_size + word_size) c.args.len)
two c e =
    let a = c.args in
    let s : 2 * c.width_of-s.result ≡ width a.d + width a.d = omega (arith, e) in
    elim c.if-size-s.branch [
      | then-size-s w ↦
          let t : eqb a.size (width a.d + width a.d) ≡ true = eq-eqb a.size (width a.d + width a.d) (w.if-size-s.true ∙ s) in
          rw t (w.value-is ∙ w.blocks_fit.ensures ∙ region_word a.to a.len)
      | else-size-s w ↦
          let t : eqb a.size (width a.d + width a.d) ≡ false =
          ne_eqb a.size (width a.d + width a.d) (λ q. w.if-size-s.false (q ∙ sym s)) in
          let u : eqb a.size (2 * c.width_of-s.result) ≡ false = ne_eqb a.size (2 * c.width_of-s.result) w.if-size-s.false in
          rw t (w.value-is ∙ u)
    ]

three : (c : Joined-blocks_fit) → c.width_of-s.result ≡ width c.args.d
    → c.if-blocks_fit.value ≡ (c.if-size-s.value && leb ((c.args.k + 1) * (width c.args.d + width c.args.d)) region_size)
three c e =
    let a = c.args in
    let s : 2 * c.width_of-s.result ≡ width a.d + width a.d = omega (arith, e) in
    elim c.if-blocks_fit.branch [
      | then-blocks_fit w ↦
          let t = w.if-blocks_fit.true in
          rw t
          (w.value-is ∙ w.blocks_fit-then-blocks_fit.ensures ∙ one_more a.k (2 * c.width_of-s.result) region_size
          ∙ ap (λ (n : ℕ). leb ((a.k + 1) * n) region_size) s)
      | else-blocks_fit w ↦ let t = w.if-blocks_fit.false in rw t (w.value-is ∙ t)
    ]

pub returns-then-blocks_fit-2 : goal.returns-then-blocks_fit-2
unfolding candidate_fits
returns-then-blocks_fit-2 c =
    let d = c.args.d in
    let p = (goal.at.returns-then-blocks_fit-2 c).Joined-blocks_fit in
    let e = c.width_of-s.ensures ∙ width-met d c.if-d-gt-VARIABLES.false in
    let few : leb d most_variables ≡ true = le-leb d most_variables c.if-d-gt-VARIABLES.false in
    let t = c.if-blocks_fit-2.true in
    rw few (c.blocks_fit-then-blocks_fit-2.ensures ∙ sym (in_turn _ _ _ _ _ _ (two p e) (three p e) ∙ rw t))

pub returns-else-blocks_fit-2 : goal.returns-else-blocks_fit-2
unfolding candidate_fits
returns-else-blocks_fit-2 c =
    let d = c.args.d in
    let p = (goal.at.returns-else-blocks_fit-2 c).Joined-blocks_fit in
    let e = c.width_of-s.ensures ∙ width-met d c.if-d-gt-VARIABLES.false in
    let few : leb d most_variables ≡ true = le-leb d most_variables c.if-d-gt-VARIABLES.false in
    let t = c.if-blocks_fit-2.false in
    rw few (t ∙ sym (in_turn _ _ _ _ _ _ (two p e) (three p e) ∙ rw t))
