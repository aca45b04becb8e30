-- `fill::counts::write_counts` meets its contract. Assumes nothing.
use Rattle.std.proofs.Common.{◌∙◌, ap, ◌+◌, ◌*◌, ◌-◌}
use Rattle.lists.specs.Written.{splice}
use Rattle.lists.proofs.Written.Splice.{put_back}
use Rattle.diagram.specs.Networks.Bound.{most_variables}
use Rattle.fill.proofs.Lowered.TrialSizes.{trial_sizes}
use Rattle.fill.proofs.counts.write_counts.Goals as goal

pub slice_bounds-copy_from_slice-end : goal.slice_bounds-copy_from_slice-end
slice_bounds-copy_from_slice-end c = omega trial_sizes

pub returns : goal.returns
returns c =
    let a = c.args in
    let at = most_variables * a.p in
    put_back a.counts.now at (at + most_variables - at) c.copy_from_slice.new.self (omega (trial_sizes, c.copy_from_slice.ensures.len))
    ∙ ap (splice a.counts.now at) c.copy_from_slice.ensures.after
