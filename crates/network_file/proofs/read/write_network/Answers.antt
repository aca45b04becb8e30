-- `network_file::read::write_network` meets its contract: what is tabulated is a copy of the file's numbers.
-- Assumes nothing.
use mathlib.Core.Path.{◌≡◌, ap, ◌∙◌}
use Prim.Native.Nat.{ℕ, ◌*◌}
use Rattle.lists.specs.Written.{over}
use Rattle.table.specs.declared.State.{State}
use Rattle.lent.specs.Tabulate.{tabulate_values, tabulate_care}
use Rattle.network_file.specs.File.{file_count, cell_number}
use Rattle.network_file.proofs.Reading.Checked.{shape_of, passed}
use Rattle.network_file.proofs.Reading.Copied.{outputs-fit, copied-over}
use Rattle.network_file.proofs.Reading.ReadTable.{tabulated}
use Rattle.network_file.proofs.read.write_network.Goals as goal

pub returns : goal.returns
returns c =
    let x = c.tabulate in
    let y = c.copy_cells in
    let z = c.copy_roots in
    let k = c.file_count-count in
    let a = c.args in
    let f = a.file.now in
    let p = c.requires.readable in
    let cells = y.new.cells in
    let roots = z.new.roots in
    let ec : cells ≡ over (cell_number f) (3 * file_count f) a.cells.now =
    y.ensures ∙ ap (λ (n : ℕ). over (cell_number f) (3 * n) a.cells.now) k.ensures.0 in
    let h = shape_of f p.accepted in
    let w =
    tabulated f h (passed f p.checked) cells roots
    (copied-over f (outputs-fit f h) a.cells.now a.roots.now cells roots p.cells-room p.roots-room ec z.ensures)
    a.values.now a.care.now p.values-room p.care-room in record {
      values = x.ensures.values ∙ ap (λ (h : State). tabulate_values h roots cells a.values.now a.care.now) c.requires.after_value ∙ w.0;
      care = x.ensures.care ∙ ap (λ (h : State). tabulate_care h roots cells a.values.now a.care.now) c.requires.after_value ∙ w.1;
      roots = z.ensures;
      cells = ec;
    }
