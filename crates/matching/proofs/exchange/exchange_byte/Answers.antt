-- `matching::exchange::exchange_byte` meets its contract. Assumes nothing.
use Rattle.matching.proofs.Parts.ExchangedBytes.{byte-joined}
use Rattle.matching.proofs.exchange.exchange_byte.Goals as goal

pub returns : goal.returns
returns c =
    byte-joined c.args.d c.args.x c.half_byte-low.result c.half_byte-high.result
    c.paired_byte.result c.paired_byte-2.result c.join_byte.result
    c.half_byte-low.ensures c.half_byte-high.ensures
    c.paired_byte.ensures c.paired_byte-2.ensures c.join_byte.ensures
