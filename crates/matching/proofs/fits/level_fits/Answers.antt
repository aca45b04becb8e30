-- Test after test. Assumes nothing.
use Rattle.std.proofs.Common.{◌≡◌, true, false, ◌&&◌, sym, ◌∙◌}
use borrow.Author.Tests.{lt-ltb, le-ltb}
use lib.Dec.{ltb}
use Rattle.diagram.specs.Networks.Bound.{most_variables}
use Rattle.matching.specs.Fits.{regions_fit, count_fits, level_fits}
use Rattle.matching.proofs.Buffers.Fitting.{links-counted, in_turn}
use Rattle.matching.proofs.fits.level_fits.Goals as goal
use Rattle.matching.proofs.fits.level_fits.Goals.{Joined-regions_fit}
use Rattle.matching.proofs.fits.level_fits.Goals.{then-d-lt-VARIABLES, else-d-lt-VARIABLES, then-regions_fit, else-regions_fit}

-- what the first two tests come to, and the third too
two : (c : Joined-regions_fit)
    → c.if-d-lt-VARIABLES.value ≡ (ltb c.args.d most_variables && regions_fit c.args.from c.args.to c.args.links c.args.len)
two c =
    let d = c.args.d in
    elim c.if-d-lt-VARIABLES.branch [
      | then-d-lt-VARIABLES w ↦
          let t : ltb d most_variables ≡ true = lt-ltb d most_variables w.if-d-lt-VARIABLES.true in
          rw t (w.value-is ∙ w.regions_fit.ensures)
      | else-d-lt-VARIABLES w ↦
          let t : ltb d most_variables ≡ false = le-ltb d most_variables w.if-d-lt-VARIABLES.false in
          rw t (w.value-is ∙ t)
    ]

three : (c : Joined-regions_fit) → c.if-regions_fit.value ≡ (c.if-d-lt-VARIABLES.value && count_fits c.args.d c.args.count)
three c =
    elim c.if-regions_fit.branch [
      | then-regions_fit w ↦ let t = w.if-regions_fit.true in rw t (w.value-is ∙ w.count_fits.ensures)
      | else-regions_fit w ↦ let t = w.if-regions_fit.false in rw t (w.value-is ∙ t)
    ]

pub returns-then-count_fits : goal.returns-then-count_fits
unfolding level_fits
returns-then-count_fits c =
    let a = c.args in
    let p = (goal.at.returns-then-count_fits c).Joined-regions_fit in
    let t = c.if-count_fits.true in
    c.blocks_fit.ensures ∙ links-counted a.links a.count a.len ∙ sym (in_turn _ _ _ _ _ _ (two p) (three p) ∙ rw t)

pub returns-else-count_fits : goal.returns-else-count_fits
unfolding level_fits
returns-else-count_fits c =
    let p = (goal.at.returns-else-count_fits c).Joined-regions_fit in
    let t = c.if-count_fits.false in
    t ∙ sym (in_turn _ _ _ _ _ _ (two p) (three p) ∙ rw t)
