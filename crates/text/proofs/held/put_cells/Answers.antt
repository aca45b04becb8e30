-- `text::held::put_cells` meets its contract. Assumes nothing.
use Rattle.std.proofs.Common.{◌∙◌, ◌<◌, ◌/◌, ◌+◌, [], ◌++◌, List, ℕ, length, get_or, take, arith, ap}
use lib.Seq.{length-take-le}
use Rattle.text.specs.Text.{cell-keyword, spaced, node_text, cell_line}
use Rattle.text.proofs.Writing.{written-more, written_as}
use Rattle.text.proofs.Lines.{cell-read}
use Rattle.text.proofs.held.put_cells.Goals as goal

pub loop-i-preserved : goal.loop-i-preserved
loop-i-preserved c =
    let l = c.loop-i in
    let cells = c.args.cells.now in
    let m = c.min.result in
    let long = length-take-le m c.as_chunks.result.0.now (omega (arith, c.min.ensures)) in
    let within : l.i < length cells / 3 = omega (arith, long, c.min.ensures, c.as_chunks.ensures.front_len, c.loop-i-test.true) in
    let counted : l.i < m = omega (arith, long, c.loop-i-test.true) in
    let line : List (List ℕ) → List ℕ = λ nodes. cell-keyword ++ (spaced (l.i + 1) ++ node_text (get_or (take m nodes) l.i []) 0) in
    written-more (cell_line cells) l.i l.invariant
    (written_as (ap line c.as_chunks.ensures.front ∙ cell-read (length cells / 3) m l.i cells [] within counted) c.put_cell-next.ensures)
