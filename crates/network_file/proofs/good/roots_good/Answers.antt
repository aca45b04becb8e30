-- `network_file::good::roots_good` meets its contract: root by root.
-- Assumes nothing.
use Rattle.std.proofs.Common.{rules, refl, ap, ◌∙◌, ◌+◌, leb, arith}
use borrow.Author.Tests.{tests}
use Rattle.std.proofs.lemmas.Iterator.{YieldsList-from_range}
use Rattle.std.proofs.lemmas.Iterator.Search.{all_from_yields_List}
use Rattle.lists.proofs.Numbers.Below.{all_same}
use Rattle.block.proofs.Elements.{all-below}
use Rattle.lent.proofs.Nodes.{cells-length}
use Rattle.lent.proofs.Tested.{own_root}
use Rattle.network_file.specs.File.{cell_number, file_root}
use Rattle.network_file.proofs.good.roots_good.Goals as goal

pub returns : goal.returns
returns c =
    let a = c.args in
    let f = a.file.now in
    all_from_yields_List (λ j. leb (file_root f j) (a.count + a.count + 1)) _ _ _ c.all.ensures.ran
    (YieldsList-from_range 0 a.m a.m refl (omega arith)) (λ x b q k. search (rules, tests))
    ∙ all-below (λ j. leb (file_root f j) (a.count + a.count + 1)) a.m
    ∙ all_same (λ j. leb (file_root f j) (a.count + a.count + 1)) (own_root a.count (cell_number f) (file_root f)) a.m
    (λ j h. rw (cells-length a.count (cell_number f)) (ap (leb (file_root f j)) (omega arith)))
