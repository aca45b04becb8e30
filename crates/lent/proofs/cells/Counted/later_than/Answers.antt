-- `lent::cells::Counted::later_than` meets its contract: each return is one case of an edge's test.
-- Assumes nothing.
use mathlib.Core.Path.{sym}
use native.Mathlib.Omega.{arith}
use Rattle.lent.specs.Lent.{number_in}
use Rattle.lent.proofs.Tested.{later-past, later-own}
use Rattle.lent.proofs.cells.Counted.later_than.Goals as goal

pub returns-then-self-r : goal.returns-then-self-r
returns-then-self-r c =
    let a = c.args in
    sym (later-past a.self.now.count (number_in a.self.now.cells.now) a.p a.r (omega arith) (omega arith))

pub returns : goal.returns
returns c =
    let a = c.args in
    sym (later-own a.self.now.count (number_in a.self.now.cells.now) a.p a.r (omega arith) (omega arith))
