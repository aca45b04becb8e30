-- `sift::moves::report_variable` meets its contract. The counts are those of v at each level, and add up to the costs of these orders.
-- Assumes nothing.
use mathlib.Core.Path.{sym, subst}
use Prim.Native.Nat.{ℕ, ◌≤◌}
use native.Mathlib.Omega.{arith}
use Rattle.diagram.specs.Networks.Bound.{most_nodes}
use Rattle.diagram.proofs.Networks.Bound.{few-cost}
use Rattle.table.specs.State.{order_of}
use Rattle.table.proofs.Held.{heading-inputs, heading-few}
use Rattle.fill.specs.Calls.{held_table}
use Rattle.fill.proofs.Lowered.TrialSizes.{counts-size}
use Rattle.sift.proofs.Trying.MovedCounts.{moved-total}
use Rattle.sift.proofs.Reporting.Report.{counted-row}
use Rattle.sift.proofs.moves.report_variable.Goals as goal

pub count_moves-requires : goal.count_moves-requires
count_moves-requires c =
    record {
      enough = c.requires.enough;
      variable = c.requires.variable.0;
      room = omega (arith, counts-size);
    }

pub write_gains-requires : goal.write_gains-requires
write_gains-requires c =
    let a = c.args in
    let t = a.table.now.state in
    let vs = a.table.now.values.now in
    let cs = a.table.now.care.now in
    let g = c.args.table.now.heading in
    let r = c.count_moves in record {
      n_le_most_variables = (heading-inputs t.n t.m (order_of t) g, c.requires.variable.1);
      counts_size_in_bounds = (
        omega (arith, counts-size, r.auto.counts),
        subst (λ (x : ℕ). x ≤ most_nodes) (sym c.requires.present)
            (few-cost (held_table t vs cs) (order_of t) (heading-inputs t.n t.m (order_of t) g) (heading-few t.n t.m (order_of t) g)),
      );
      by_index = λ p h. (moved-total t vs cs g a.v c.requires.variable.0 r.new.counts r.ensures.counts p h).1;
    }

pub returns : goal.returns
returns c =
    let a = c.args in
    let r = c.count_moves in record {
      row = counted-row a.table.now.state a.table.now.values.now a.table.now.care.now c.args.table.now.heading a.v c.requires.variable.0
          r.new.counts r.ensures.counts a.present c.requires.present a.row.now c.write_gains.new.row
          c.write_gains.ensures;
      work = r.ensures.work;
    }
