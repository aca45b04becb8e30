-- `network_file::blocks::write_block` meets its contract: the content, then the check of its sum.
-- Assumes nothing.
use Rattle.network_file.proofs.Writing.WrittenBlocks.{check-next}
use Rattle.network_file.proofs.blocks.write_block.Goals as goal

pub returns : goal.returns
returns c =
    let y = c.write_check in
    let w = c.write_content-total in
    let a = c.args in
    check-next a.state a.roots.now a.cells.now a.k a.file.now w.new.file y.new.file
    c.requires.k_in_bounds w.result w.ensures.sum w.ensures.file y.ensures
