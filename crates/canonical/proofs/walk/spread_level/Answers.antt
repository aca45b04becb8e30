use Rattle.std.proofs.Common.{◌∙◌, arith, refl}
use Rattle.canonical.proofs.Spread.{spread-turn}
use Rattle.canonical.proofs.walk.spread_level.Goals as goal

pub spread_node-requires : goal.spread_node-requires
spread_node-requires c = c.requires c.loop-k.k-index (omega arith)

pub loop-k-preserved : goal.loop-k-preserved
loop-k-preserved c =
    c.spread_node.ensures
    ∙ spread-turn c.args.cells.now c.args.p c.args.level.now c.loop-k.k-index _ (omega arith) refl c.loop-k.below c.loop-k.invariant
