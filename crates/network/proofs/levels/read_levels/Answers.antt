use Rattle.std.proofs.Common.{◌≡◌, sym, ap, ◌∙◌, arith, get_or, ◌+◌, ◌-◌, ◌*◌, ◌≤◌}
use Rattle.network.specs.Levels.{made, Made, level_made, levels_made}
use Rattle.network.proofs.LinksRead.Offsets.{sum-above, at_above, at-rises}
use Rattle.network.proofs.LinksRead.LevelTurns.{no-levels, turn_level}
use Rattle.network.proofs.levels.read_levels.Goals as goal
use Rattle.network.proofs.levels.read_levels.Goals.{In-loop-p}

-- what the level makes of those below it
level : (c : In-loop-p)
    → let a = c.args in
    let l = c.loop-p in
    let q = l.p - 1 in
    let e = get_or a.entries q 0 in
    level_made q l.below (l.below - 4 * e) e (made l.work l.cells (l.base - get_or a.counts q 0))
    ≡ levels_made a.m a.entries a.counts q (a.n - q) (made a.work.now a.cells.now 0)
level c =
    let a = c.args in
    let l = c.loop-p in
    let q = l.p - 1 in
    let h : l.p ≡ q + 1 = omega arith in
    turn_level a.m a.entries a.counts a.n l.p q (made a.work.now a.cells.now 0) l.work l.cells h (omega arith) l.invariant.work
    l.invariant.cells (l.below - 4 * get_or a.entries q 0) l.below (l.base - get_or a.counts q 0)
    (omega (arith, l.invariant.begins, at_above l.p q h a.m a.entries)) l.invariant.begins
    (omega (arith, l.invariant.above, sum-above l.p q h (λ r. get_or a.counts r 0)))

-- its nodes are among all
nodes : (c : In-loop-p)
    → let a = c.args in
    let l = c.loop-p in
    let q = l.p - 1 in
    let e = get_or a.entries q 0 in
    (level_made q l.below (l.below - 4 * e) e (made l.work l.cells (l.base - get_or a.counts q 0))).next ≤ a.total
nodes c = omega (arith, ap (λ (u : Made). u.next) (level c), c.requires.nodes_in_all (c.loop-p.p - 1) (omega arith))

pub loop-p-init : goal.loop-p-init
loop-p-init c =
    let a = c.args in
    let none = sym (no-levels a.m a.entries a.counts a.n (made a.work.now a.cells.now 0)) in record {
      begins = c.requires.in_work.1;
      above = c.requires.all_nodes.0;
      work = ap (λ (u : Made). u.work) none;
      cells = ap (λ (u : Made). u.cells) none;
    }

pub read_level-requires-clause-in_work : goal.read_level-requires-clause-in_work
read_level-requires-clause-in_work c =
    let a = c.args in
    let l = c.loop-p in
    let h : l.p ≡ l.p - 1 + 1 = omega arith in
    omega (arith, l.invariant.begins, at_above l.p (l.p - 1) h a.m a.entries, at-rises a.m a.entries l.p a.n (omega arith))

pub read_level-requires-clause-small : goal.read_level-requires-clause-small
read_level-requires-clause-small c = omega (arith, nodes (goal.at.read_level-requires-clause-small c).In-loop-p)

pub read_level-requires-clause-room : goal.read_level-requires-clause-room
read_level-requires-clause-room c = omega (arith, nodes (goal.at.read_level-requires-clause-room c).In-loop-p)

pub loop-p-preserved : goal.loop-p-preserved
loop-p-preserved c =
    let a = c.args in
    let l = c.loop-p in
    let q = l.p - 1 in
    let h : l.p ≡ q + 1 = omega arith in
    let e = c.read_level.ensures ∙ level (goal.at.loop-p-preserved c).In-loop-p in record {
      begins = omega (arith, l.invariant.begins, at_above l.p q h a.m a.entries);
      above = omega (arith, l.invariant.above, sum-above l.p q h (λ r. get_or a.counts r 0));
      work = ap (λ (u : Made). u.work) e;
      cells = ap (λ (u : Made). u.cells) e;
    }
