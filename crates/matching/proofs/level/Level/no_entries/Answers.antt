-- The links lie behind the region. Assumes nothing.
use Rattle.matching.proofs.Buffers.Fitting.{level-says}
use Rattle.matching.proofs.level.Level.no_entries.Goals as goal

pub invariant_of-result : goal.invariant_of-result
invariant_of-result c =
    let s = c.args.self in
    record { links_behind = ((level-says s.d s.from s.count s.to s.links s.len).told s.fits).1.1.0.1 }
