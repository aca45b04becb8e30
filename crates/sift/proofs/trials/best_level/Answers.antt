use borrow.Author.Rules.{rules}
use mathlib.Core.Path.{◌≡◌, refl, ap₂, ◌∙◌}
use mathlib.Core.List.{sum}
use Prim.Native.Nat.{ℕ, ◌+◌, ◌≤◌, ◌<◌}
use native.Mathlib.Omega.{arith}
use Rattle.diagram.specs.Networks.Bound.{most_variables, most_nodes}
use Rattle.table.specs.State.{order_of}
use Rattle.table.proofs.Held.{heading-inputs, heading-order}
use Rattle.fill.specs.Calls.{held_table, counts_of}
use Rattle.sift.specs.Inner.Trials.{cost_at, best_with}
use Rattle.sift.proofs.Trying.MovedCounts.{moved-total}
use Rattle.sift.proofs.Trying.BestLevel.{trials-counted, trials-more, best-all, present-level}
use Rattle.sift.proofs.trials.best_level.Goals as goal
use Rattle.sift.proofs.trials.best_level.Goals.{After-count_moves}

few : (k : After-count_moves) → k.args.table.now.state.n ≤ most_variables
few k =
    let t = k.args.table.now.state in
    heading-inputs t.n t.m (order_of t) k.args.table.now.heading

-- the counts of each level add up to the cost of the order with v there
total : (k : After-count_moves) (p : ℕ)
    → let a = k.args in
    let cs = counts_of p k.count_moves.new.counts in
    p < a.table.now.state.n
    → (sum ◌+◌ 0 cs ≡ cost_at (held_table a.table.now.state a.table.now.values.now a.table.now.care.now) a.v (order_of a.table.now.state) p)
    × (sum ◌+◌ 0 cs ≤ most_nodes)
total k p h =
    let a = k.args in
    moved-total a.table.now.state a.table.now.values.now a.table.now.care.now k.args.table.now.heading a.v k.requires.variable
    k.count_moves.new.counts k.count_moves.ensures.counts p h

pub total_of-nodes-requires : goal.total_of-nodes-requires
total_of-nodes-requires c =
    let l = c.loop-p in
    let below = c.loop-p-test.true in record {
      p_lt_most_variables = (
        omega (arith, below, few (goal.at.total_of-nodes-requires c).After-count_moves),
        omega (arith, c.requires.room, c.count_moves.auto.counts),
      );
      counts_bound = (total (goal.at.total_of-nodes-requires c).After-count_moves l.p below).1;
    }

pub offset_bounds-order-p : goal.offset_bounds-order-p
offset_bounds-order-p c =
    omega (arith, c.loop-p-test.true, few (goal.at.offset_bounds-order-p c).After-count_moves)

pub bounds-order-p : goal.bounds-order-p
bounds-order-p c =
    omega (arith, c.loop-p-test.true, few (goal.at.bounds-order-p c).After-count_moves)

pub try_level-best-requires : goal.try_level-best-requires
try_level-best-requires c =
    let a = c.args in
    let l = c.loop-p in
    let t = held_table a.table.now.state a.table.now.values.now a.table.now.care.now in
    omega (
      arith,
      trials-counted t a.v (order_of a.table.now.state) l.p l.best l.invariant.1,
      c.loop-p-test.true,
      few (goal.at.try_level-best-requires c).After-count_moves,
    )

pub loop-p-preserved : goal.loop-p-preserved
loop-p-preserved c =
    let a = c.args in
    let t = a.table.now.state in
    let l = c.loop-p in
    let below = c.loop-p-test.true in
    let r = c.total_of-nodes in (
      omega (arith, below),
      trials-more (held_table t a.table.now.values.now a.table.now.care.now) a.v (order_of t) l.p l.best c.try_level-best.result l.invariant.1
          (c.try_level-best.ensures
          ∙ ap₂ (best_with l.best l.p) (r.ensures ∙ (total (goal.at.loop-p-preserved c).After-count_moves l.p below).0)
          (present-level t.n t.order a.v l.p
          (heading-order t.n t.m (order_of t) c.args.table.now.heading) c.requires.variable below)),
    )

pub returns : goal.returns
returns c =
    let a = c.args in
    let l = c.loop-p in record {
      best = best-all (held_table a.table.now.state a.table.now.values.now a.table.now.care.now) a.v (order_of a.table.now.state) l.p l.best
          (omega (arith, l.invariant.0, c.loop-p-test.false)) (omega (arith, c.requires.variable)) l.invariant.1;
      counts = c.count_moves.ensures.counts;
      work = c.count_moves.ensures.work;
    }
