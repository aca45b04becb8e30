-- `sift::passes::turn` meets its contract. The variable that comes next is sifted in the state with the order reached so far.
-- Assumes nothing.
use mathlib.Core.Path.{◌≡◌}
use Prim.Native.Nat.{◌≤◌, ◌<◌}
use native.Mathlib.Omega.{arith}
use lib.ListN.{take}
use Rattle.diagram.specs.Networks.Bound.{most_variables}
use Rattle.table.proofs.Held.{heading-inputs, heading-order}
use Rattle.sift.proofs.Passing.OneTurn.{turn_below, current-heading, current-below, current-known, turn_level, turn-tried, turned}
use Rattle.sift.proofs.passes.turn.Goals as goal
use Rattle.sift.proofs.passes.turn.Goals.{After-fullest-v, After-sift_one-found}

pub fullest-v-requires : goal.fullest-v-requires
fullest-v-requires c =
    let t = c.args.state in
    let order = take t.n c.args.progress.order in record {
      few = heading-inputs t.n t.m order c.requires.heading;
      order = heading-order t.n t.m order c.requires.heading;
    }

few : (f : After-fullest-v) → f.args.state.n ≤ most_variables
few f =
    let t = f.args.state in
    heading-inputs t.n t.m (take t.n f.args.progress.order) f.requires.heading

below : (f : After-fullest-v) → f.fullest-v.result < f.args.state.n
below f =
    let a = f.args in
    turn_below a.state a.progress a.values.now a.care.now f.requires.heading (omega (arith, f.requires.some_left)) f.requires.counted
    f.fullest-v.result f.fullest-v.ensures

pub sift_one-found-requires : goal.sift_one-found-requires
sift_one-found-requires c =
    let a = c.args in
    let some : 0 < a.state.n = omega (arith, c.requires.some_left) in
    let v = c.fullest-v in
    let d = c.reorder in
    record {
      enough = c.requires.enough;
      variable = current-below a.state a.progress a.values.now a.care.now c.requires.heading some c.requires.counted v.result v.ensures
          d.result d.ensures;
    }

level : (k : After-sift_one-found) → k.sift_one-found.result.best.level < k.args.state.n
level k =
    let a = k.args in
    let v = k.fullest-v in
    let d = k.reorder in
    turn_level a.state a.progress a.values.now a.care.now k.requires.heading (omega (arith, k.requires.some_left)) k.requires.counted
    v.result v.ensures d.result d.ensures k.sift_one-found.result k.sift_one-found.ensures.sifted

tried : (k : After-sift_one-found) → k.sift_one-found.result.best.tried ≡ k.args.state.n
tried k =
    let a = k.args in
    let v = k.fullest-v in
    let d = k.reorder in
    turn-tried a.state a.progress a.values.now a.care.now k.requires.heading (omega (arith, k.requires.some_left)) k.requires.counted
    v.result v.ensures d.result d.ensures k.sift_one-found.result k.sift_one-found.ensures.sifted

pub moved_to-after-requires : goal.moved_to-after-requires
moved_to-after-requires c =
    let t = c.args.state in record {
      few = few (goal.at.moved_to-after-requires c).After-fullest-v;
      order = heading-order t.n t.m (take t.n c.args.progress.order) c.requires.heading;
      levels = (below (goal.at.moved_to-after-requires c).After-fullest-v, level (goal.at.moved_to-after-requires c).After-sift_one-found);
    }

pub bounds-sifted-v : goal.bounds-sifted-v
bounds-sifted-v c =
    omega (arith, below (goal.at.bounds-sifted-v c).After-fullest-v, few (goal.at.bounds-sifted-v c).After-fullest-v)

pub overflow_add-result-2 : goal.overflow_add-result-2
overflow_add-result-2 c =
    omega (
      arith,
      c.requires.some_left,
      tried (goal.at.overflow_add-result-2 c).After-sift_one-found,
      few (goal.at.overflow_add-result-2 c).After-fullest-v,
    )

pub returns : goal.returns
returns c =
    let a = c.args in
    let v = c.fullest-v in
    let d = c.reorder in
    let r = c.sift_one-found in
    let o = c.moved_to-after in record {
      progress = turned a.state a.progress a.values.now a.care.now c.requires.heading (omega (arith, c.requires.some_left))
          c.requires.counted
          v.result v.ensures d.result d.ensures r.result r.ensures.sifted o.result o.ensures;
      work = r.ensures.work;
    }
