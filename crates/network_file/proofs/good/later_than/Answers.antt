-- `network_file::good::later_than` meets its contract: each return is one case of an edge's test.
-- Assumes nothing.
use Rattle.std.proofs.Common.{arith}
use Rattle.std.proofs.lemmas.Grind.{common_steps}
use Rattle.network_file.specs.File.{cell_number}
use Rattle.lent.proofs.Tested.{later-past, later-own}
use Rattle.network_file.proofs.good.later_than.Goals as goal

pub returns-then-r-count : goal.returns-then-r-count
returns-then-r-count c =
    let a = c.args in
    grind (
      arith,
      common_steps,
      later-own a.count (cell_number a.file.now) a.p a.r,
    )

pub returns-else-r-count : goal.returns-else-r-count
returns-else-r-count c =
    let a = c.args in
    grind (
      arith,
      common_steps,
      later-past a.count (cell_number a.file.now) a.p a.r,
    )
