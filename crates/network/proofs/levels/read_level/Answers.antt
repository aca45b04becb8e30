use Rattle.std.proofs.Common.{refl, arith, ◌+◌, ◌*◌, ◌≤◌}
use Rattle.network.specs.Levels.{made, entry_made, level_made}
use Rattle.network.proofs.LinksRead.Entries.{turn-next, turn-made}
use Rattle.network.proofs.levels.read_level.Goals as goal
use Rattle.network.proofs.levels.read_level.Goals.{In-loop-j}

-- the next entry's node is one of the level's
next-in-level : (c : In-loop-j)
    → let a = c.args in
    let l = c.loop-j in
    (entry_made a.p a.below (a.i + 4 * l.j) (made l.work l.cells l.next)).next
    ≤ (level_made a.p a.below a.i a.e (made a.work.now a.cells.now a.base)).next
next-in-level c =
    let a = c.args in
    let l = c.loop-j in
    turn-next a.p a.below a.i a.e l.j (made a.work.now a.cells.now a.base) (made l.work l.cells l.next) l.invariant c.loop-j-test.true

pub loop-j-init : goal.loop-j-init
unfolding level_made
loop-j-init c = refl

pub read_entry-next-requires-clause-small : goal.read_entry-next-requires-clause-small
read_entry-next-requires-clause-small c =
    omega (arith, next-in-level (goal.at.read_entry-next-requires-clause-small c).In-loop-j)

pub read_entry-next-requires-clause-room : goal.read_entry-next-requires-clause-room
read_entry-next-requires-clause-room c =
    omega (arith, next-in-level (goal.at.read_entry-next-requires-clause-room c).In-loop-j)

pub loop-j-preserved : goal.loop-j-preserved
loop-j-preserved c =
    let a = c.args in
    let l = c.loop-j in
    let r = c.read_entry-next in
    turn-made a.p a.below a.i a.e l.j (made a.work.now a.cells.now a.base) (made l.work l.cells l.next) l.invariant
    (made r.new.work r.new.cells r.result) r.ensures
