-- `matching::exchange_top` meets its contract: it refuses, or has what it needs. Assumes nothing.
use lib.ListN.{length}
use Rattle.matching.proofs.Buffers.Fitting.{parts-say, passed}
use Rattle.matching.proofs.exchange_top.Goals as goal

pub exchange_parts-requires : goal.exchange_parts-requires
exchange_parts-requires c =
    let a = c.args in
    let all = (parts-say a.d a.from a.count (length a.work.now)).told
    (passed c.parts_fit.ensures c.if-not-parts_fit.false-raw) in
    record { variables = all.0; in_work = all.1 }
