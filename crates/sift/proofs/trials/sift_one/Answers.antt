-- `sift::trials::sift_one` meets its contract. The counts are read off at the best level.
-- Assumes nothing.
use native.Mathlib.Omega.{arith}
use Rattle.table.specs.State.{order_of}
use Rattle.table.proofs.Held.{heading-inputs}
use Rattle.fill.specs.Calls.{held_table}
use Rattle.fill.proofs.Lowered.TrialSizes.{counts-size}
use Rattle.sift.proofs.Trying.BestLevel.{best-below}
use Rattle.sift.proofs.Trying.SiftedCounts.{sifted-made}
use Rattle.sift.proofs.trials.sift_one.Goals as goal

pub best_level-best-requires : goal.best_level-best-requires
best_level-best-requires c =
    record {
      enough = c.requires.enough;
      variable = c.requires.variable;
      room = omega (arith, counts-size);
    }

pub counts_of-left-requires : goal.counts_of-left-requires
counts_of-left-requires c =
    let a = c.args in
    let t = a.table.now.state in (
      omega (
        arith,
        best-below (held_table t a.table.now.values.now a.table.now.care.now) a.v (order_of t) c.best_level-best.result c.best_level-best.ensures.best
            c.requires.variable,
        heading-inputs t.n t.m (order_of t) c.args.table.now.heading,
      ),
      omega (arith, counts-size, c.best_level-best.auto.counts),
    )

pub returns : goal.returns
returns c =
    let a = c.args in
    let r = c.best_level-best in record {
      sifted = sifted-made (held_table a.table.now.state a.table.now.values.now a.table.now.care.now) a.v (order_of a.table.now.state) c.requires.variable
          r.result r.ensures.best r.new.counts r.ensures.counts c.counts_of-left.result c.counts_of-left.ensures;
      work = r.ensures.work;
    }
