-- `fill::lowering::cells_of` meets its contract. Assumes nothing.
use Rattle.std.proofs.Common.{◌∙◌, ◌+◌, ◌*◌, ◌-◌}
use Rattle.fill.proofs.Lowered.TrialSizes.{trial_sizes}
use Rattle.fill.proofs.Counting.CountedCells.{pairs-part}
use Rattle.fill.proofs.lowering.cells_of.Goals as goal

pub returns : goal.returns
returns c =
    let k = c.args.entries in
    c.differing_pairs.ensures
    ∙ pairs-part c.args.work.now 16384 k (16384 + 4 * k - 16384) (omega trial_sizes) (omega (trial_sizes, c.requires))
