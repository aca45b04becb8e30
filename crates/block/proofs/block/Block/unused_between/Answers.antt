-- `block::block::Block::unused_between` meets its contract.
-- Assumes nothing.
use Rattle.std.proofs.Common.{rules, refl, ◌∙◌, eqb, ◌-◌}
use borrow.Author.Tests.{tests}
use Rattle.std.proofs.lemmas.Iterator.{YieldsList-from_range}
use Rattle.std.proofs.lemmas.Iterator.Search.{all_from_yields_List}
use Rattle.block.specs.Block.{byte, unused_between}
use Rattle.block.proofs.Elements.{all-range}
use Rattle.block.proofs.block.Block.unused_between.Goals as goal

pub returns : goal.returns
unfolding unused_between
returns c =
    let a = c.args in
    all_from_yields_List (λ i. eqb (byte a.self.file.now a.self.number i) 0) _ _ _ c.all.ensures.ran
    (YieldsList-from_range a.from a.end (a.end - a.from) refl refl) (λ x b q k. search (rules, tests))
    ∙ all-range (λ i. eqb (byte a.self.file.now a.self.number i) 0) a.from (a.end - a.from)
