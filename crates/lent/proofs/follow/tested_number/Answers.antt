-- `lent::follow::tested_number` meets its contract: a number of 16 bits fits. Assumes nothing.
use mathlib.Core.Path.{refl}
use Rattle.lent.proofs.follow.tested_number.Goals as goal

pub returns : goal.returns
returns c =
    refl
