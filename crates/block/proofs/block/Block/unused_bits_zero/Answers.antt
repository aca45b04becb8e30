-- `block::block::Block::unused_bits_zero` meets its contract: byte by byte.
-- Assumes nothing.
use Rattle.std.proofs.Common.{rules, refl, sym, ◌∙◌}
use borrow.Author.Tests.{tests}
use Rattle.std.proofs.lemmas.Iterator.{YieldsList-from_range}
use Rattle.std.proofs.lemmas.Iterator.Search.{all_from_yields_List}
use Rattle.block.specs.Block.{content_size}
use Rattle.block.specs.Inner.UnusedByte.{unused_byte_zero}
use Rattle.block.proofs.UnusedBits.{by_bytes}
use Rattle.block.proofs.Elements.{all-below}
use Rattle.block.proofs.block.Block.unused_bits_zero.Goals as goal

pub returns : goal.returns
returns c =
    let a = c.args in
    all_from_yields_List (unused_byte_zero a.self.file.now a.self.number a.used) _ _ _ c.all.ensures.ran
    (YieldsList-from_range 0 content_size content_size refl refl) (λ x b q k. search (rules, tests))
    ∙ all-below (unused_byte_zero a.self.file.now a.self.number a.used) content_size
    ∙ sym (by_bytes a.self.file.now a.self.number a.used)
