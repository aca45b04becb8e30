-- `fill::cells::ends_within` meets its contract. Assumes nothing.
use Rattle.std.proofs.Common.{sym, ◌+◌, ◌-◌, ◌*◌, get_or, drop, arith}
use borrow.Author.Tests.{lt-leb}
use Rattle.std.proofs.lemmas.List.{at_drop_more}
use Rattle.fill.specs.Counts.{links_end}
use Rattle.fill.proofs.Counting.CountedCells.{end-behind}
use Rattle.fill.proofs.cells.ends_within.Goals as goal

pub returns-then-room-pairs : goal.returns-then-room-pairs
returns-then-room-pairs c =
    let l = c.loop-pairs in
    let a = c.args in
    let at = a.end - l.room in
    let next = at + 4 * get_or a.entries.now l.pairs-index 0 in
    sym (lt-leb (links_end a.at a.entries.now) a.end
    (omega (
      arith,
      at_drop_more (links_end at) a.entries.now l.pairs-index 0 (omega arith),
      end-behind next (drop (l.pairs-index + 1) a.entries.now),
    )))
