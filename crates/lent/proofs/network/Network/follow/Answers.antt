use mathlib.Core.Path.{◌∙◌}
use native.Mathlib.Omega.{arith}
use Rattle.lent.specs.Inner.Cells.{level_bit}
use Rattle.lent.specs.Lent.{lent_cells}
use Rattle.lent.proofs.Following.{xor-flip, xor-flipped, step-own, step_falls, step_gives, last-gives}
use Rattle.lent.proofs.network.Network.follow.Goals as goal

pub loop-r-smaller : goal.loop-r-smaller
loop-r-smaller c =
    let w = c.args.self.now in
    let l = c.loop-r in
    step_falls w.state.n (lent_cells w.state.count w.cells.now) w.evaluable.followable.levelled.good (level_bit c.args.bits) l.r
    l.invariant.own c.loop-r-test.true c.next-r.result c.next-r.ensures

pub loop-r-preserved : goal.loop-r-preserved
loop-r-preserved c =
    let w = c.args.self.now in
    let D = lent_cells w.state.count w.cells.now in
    let good = w.evaluable.followable.levelled.good in
    let l = c.loop-r in
    let x = c.next-r in
    record {
      own = step-own w.state.n D good (level_bit c.args.bits) l.r l.invariant.own c.loop-r-test.true x.result x.ensures;
      kept =
          step_gives w.state.n D good (level_bit c.args.bits) l.r l.invariant.own c.loop-r-test.true x.result x.ensures
          c.args.root l.inverted l.invariant.kept _ (xor-flipped l.inverted _);
    }

pub returns : goal.returns
returns c =
    let w = c.args.self.now in
    let l = c.loop-r in
    xor-flip l.inverted _
    ∙ last-gives (lent_cells w.state.count w.cells.now) (level_bit c.args.bits) w.state.n c.args.root l.r
    (omega arith) l.inverted l.invariant.kept
