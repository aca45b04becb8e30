-- `table::order::level_of` meets its contract.
-- Assumes nothing.
use Rattle.std.proofs.Common.{rules, ap, ◌∙◌, length, eqb, take, min}
use borrow.Author.Tests.{tests}
use Rattle.std.proofs.lemmas.Iterator.{YieldsList-from_slice}
use Rattle.std.proofs.lemmas.Iterator.Search.{position_from_yields_List}
use Rattle.lists.specs.Lists.{index}
use Rattle.diagram.specs.Networks.Bound.{most_variables}
use Rattle.table.proofs.Ordering.VariableLevels.{found-index, entries-held}
use Rattle.table.proofs.order.level_of.Goals as goal

pub returns : goal.returns
returns c =
    let a = c.args in
    let held = take (min a.n most_variables) a.order in
    c.unwrap_or.ensures
    ∙ ap (λ k. Rattle.std.specs.Option.unwrap_or c.position.result (length (take k a.order))) c.min.ensures
    ∙ found-index a.v held c.position.result
    (position_from_yields_List (eqb a.v) _ _ c.position.result c.position.ensures.ran (YieldsList-from_slice held cc)
    (λ x b q k. search (rules, tests)))
    ∙ ap (index eqb a.v) (entries-held a.n a.order (search rules))
