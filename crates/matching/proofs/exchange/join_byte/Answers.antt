-- `matching::exchange::join_byte` meets its contract, by cases on d. Assumes nothing.
use native.Mathlib.Omega.{arith}
use Rattle.matching.proofs.Parts.PartHalves.{shift_small}
use Rattle.matching.proofs.Parts.ExchangedBytes.{join-fits, join-shifted}
use Rattle.matching.proofs.exchange.join_byte.Goals as goal

pub overflow_shl-result-2 : goal.overflow_shl-result-2
overflow_shl-result-2 c =
    shift_small c.args.d c.requires.below_a_byte

pub overflow_add-result : goal.overflow_add-result
overflow_add-result c =
    let a = c.args in
    omega (arith, join-fits a.low a.high a.d c.requires.below_a_byte c.requires.halves_fit.0 c.requires.halves_fit.1)

pub returns : goal.returns
returns c =
    let a = c.args in
    join-shifted a.low a.high a.d c.requires.below_a_byte c.requires.halves_fit.0 c.requires.halves_fit.1
