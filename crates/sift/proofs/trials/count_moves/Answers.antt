-- `sift::trials::count_moves` meets its contract. The known counts are put in where v stands, and the trials of v from the top leave them.
-- Assumes nothing.
use mathlib.Core.Path.{◌∙◌}
use Prim.Native.Nat.{◌<◌}
use native.Mathlib.Omega.{arith}
use Rattle.diagram.specs.Networks.Bound.{most_variables}
use Rattle.diagram.proofs.Orders.Order.{index_below}
use Rattle.table.specs.State.{order_of}
use Rattle.table.proofs.Held.{heading-inputs, heading-order}
use Rattle.fill.proofs.Calls.TriedCounts.{counts-put}
use Rattle.sift.proofs.Trying.MovedCounts.{counts-moved, work-zeroed}
use Rattle.sift.proofs.trials.count_moves.Goals as goal
use Rattle.sift.proofs.trials.count_moves.Goals.{After-level_of-q}

-- v stands at one of the levels
below-most : (l : After-level_of-q) → l.level_of-q.result < most_variables
below-most l =
    let t = l.args.table.now.state in
    omega (
      arith,
      l.level_of-q.ensures,
      index_below t.n (order_of t) (heading-order t.n t.m (order_of t) l.args.table.now.heading) l.args.v l.requires.variable,
      heading-inputs t.n t.m (order_of t) l.args.table.now.heading,
    )

pub moved_to-top-requires : goal.moved_to-top-requires
moved_to-top-requires c =
    let t = c.args.table.now.state in
    let v = c.requires.variable in record {
      few = heading-inputs t.n t.m (order_of t) c.args.table.now.heading;
      order = heading-order t.n t.m (order_of t) c.args.table.now.heading;
      levels = (v, omega (arith, v));
    }

pub returns : goal.returns
returns c =
    let a = c.args in
    let vs = a.table.now.values.now in
    let cs = a.table.now.care.now in
    let m = c.moved_to-top in
    let u = c.put_counts in
    let put = u.ensures ∙ counts-put c.level_of-q.result a.table.now.known a.counts.now
    (below-most (goal.at.returns c).After-level_of-q) c.requires.room in
    let d = c.reorder-current in
    let r = c.try_levels in record {
      counts = counts-moved a.table.now.state vs cs c.args.table.now.heading a.v c.requires.variable m.result m.ensures a.table.now.known c.args.table.now.counted
          c.level_of-q.result c.level_of-q.ensures a.counts.now c.requires.room u.new.counts put a.work.now c.requires.enough
          d.result d.ensures r.new.counts r.ensures.counts;
      work = work-zeroed a.table.now.state vs cs c.args.table.now.heading a.v c.requires.variable m.result m.ensures a.table.now.known c.args.table.now.counted
          c.level_of-q.result c.level_of-q.ensures a.counts.now c.requires.room u.new.counts put a.work.now c.requires.enough
          d.result d.ensures r.new.work r.ensures.work;
    }
