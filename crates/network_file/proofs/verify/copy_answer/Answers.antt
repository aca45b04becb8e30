-- `network_file::verify::copy_answer` meets its contract: what is tested is a copy of the file's numbers.
-- Assumes nothing.
use mathlib.Core.Path.{◌≡◌, ap, ◌∙◌}
use Prim.Native.Nat.{ℕ, ◌*◌}
use Rattle.lists.specs.Written.{over}
use Rattle.table.specs.declared.State.{State}
use Rattle.canonical.specs.Canonical.{canonical_answer}
use Rattle.network_file.specs.File.{file_count, cell_number}
use Rattle.network_file.proofs.Reading.Checked.{shape_of, copy-checked}
use Rattle.network_file.proofs.Reading.Copied.{outputs-fit, copied-over}
use Rattle.network_file.proofs.verify.copy_answer.Goals as goal

pub returns : goal.returns
returns c =
    let y = c.copy_cells in
    let z = c.copy_roots in
    let k = c.file_count-count in
    let t = c.file_state-held in
    let f = c.args.file.now in
    let cells = y.new.cells in
    let roots = z.new.roots in
    let ec : cells ≡ over (cell_number f) (3 * file_count f) c.args.cells.now =
    y.ensures ∙ ap (λ (n : ℕ). over (cell_number f) (3 * n) c.args.cells.now) k.ensures.0 in
    let h = shape_of f c.requires.file_value in
    c.test_held.ensures ∙ ap (λ (h : State). canonical_answer h roots cells) t.ensures
    ∙ copy-checked f h cells roots
    (copied-over f (outputs-fit f h) c.args.cells.now c.args.roots.now cells roots c.requires.roots_size_in_bounds.1
    c.requires.roots_size_in_bounds.0 ec
    z.ensures)
