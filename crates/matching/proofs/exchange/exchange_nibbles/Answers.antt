-- `matching::exchange::exchange_nibbles` meets its contract: both bytes are read before either is stored. Assumes nothing.
use Rattle.matching.proofs.Parts.ExchangedBytes.{nibbles-exchanged}
use Rattle.matching.proofs.exchange.exchange_nibbles.Goals as goal

pub returns : goal.returns
returns c =
    nibbles-exchanged c.args.plane.now c.paired_byte.result c.paired_byte-2.result c.requires c.paired_byte.ensures
    c.paired_byte-2.ensures
