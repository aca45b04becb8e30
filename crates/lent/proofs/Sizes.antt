-- How many roots are lent, and how long a plane is.
-- Assumes nothing.
use mathlib.Core.Path.{◌≡◌, refl}
use Rattle.diagram.specs.Networks.Bound.{most_outputs}
use Rattle.table.proofs.Planes.PlaneSize.{plane-size}
use Rattle.lent.specs.Lent.{roots_size}

pub roots-size : roots_size ≡ most_outputs
unfolding roots_size
roots-size = refl

-- for a tactic: a lemma that it names has no dash
pub ruleset sizes = (plane-size)
