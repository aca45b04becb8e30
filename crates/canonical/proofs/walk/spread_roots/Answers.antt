use Rattle.std.proofs.Common.{◌∙◌, arith, refl}
use Rattle.canonical.proofs.Spread.{roots-turn}
use Rattle.canonical.proofs.walk.spread_roots.Goals as goal

pub arrive_ref-requires : goal.arrive_ref-requires
arrive_ref-requires c = c.requires.roots c.loop-r.r-index (omega arith)

pub loop-r-preserved : goal.loop-r-preserved
loop-r-preserved c =
    c.arrive_ref.ensures ∙ roots-turn c.args.roots.now c.loop-r.r-index _ (omega arith) refl c.loop-r.top c.loop-r.invariant
