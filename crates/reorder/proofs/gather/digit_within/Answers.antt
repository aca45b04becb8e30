-- `reorder::gather::digit_within` meets its contract.
-- Assumes nothing.
use mathlib.Core.Path.{refl}
use Rattle.block.proofs.StreamBits.{bit_shifted}
use Rattle.reorder.proofs.gather.digit_within.Goals as goal

pub returns : goal.returns
returns c = bit_shifted c.args.plane.now c.args.i _ refl
