-- The sizes of what trials use as numbers, for `omega`.
-- Assumes nothing.
use mathlib.Core.Path.{◌≡◌, refl}
use Rattle.fill.specs.Work.{trials_size}
use Rattle.fill.specs.Calls.{counts_size}
use Rattle.fill.proofs.Buffers.Sizes.{sizes}

pub trials-size : trials_size ≡ 20480
unfolding trials_size
trials-size = refl

pub counts-size : counts_size ≡ 100
unfolding counts_size
counts-size = refl

pub ruleset trial_sizes = (sizes, trials-size, counts-size)
