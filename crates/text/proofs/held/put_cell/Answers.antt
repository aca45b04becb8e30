-- `text::held::put_cell` meets its contract. Assumes nothing.
use Rattle.text.proofs.Writing.{written_then}
use Rattle.text.proofs.held.put_cell.Goals as goal

pub returns : goal.returns
returns c = written_then c.put-word.ensures (written_then c.put_number-node.ensures c.put_node.ensures)
