-- In buffers of the printing program's sizes the output is that of the input alone: no text is cut.
-- Assumes nothing.
use mathlib.Core.Path.{◌≡◌, sym, ap, ◌∙◌, subst}
use mathlib.Core.Bool.{true, false}
use mathlib.Core.List.{List, [], ◌++◌}
use Prim.Native.Nat.{ℕ, ◌*◌, ◌≤◌}
use native.Mathlib.Omega.{arith}
use lib.ListN.{length, drop}
use Rattle.lists.proofs.Bools.{to-not}
use Rattle.diagram.specs.Networks.Bound.{most_nodes}
use Rattle.table.specs.Answer.{done}
use Rattle.table.proofs.Outcomes.{answered-ok}
use Rattle.table.specs.File.{file_inputs, file_outputs}
use Rattle.table.specs.Calls.{plane_size, loaded_state}
use Rattle.fill.specs.Work.{work_size}
use Rattle.lent.specs.Lent.{numbers_of, roots_size}
use Rattle.text.specs.Text.{inputs-keyword, outputs-keyword, line, order_line, total_lines, network_lines}
use Rattle.printed.specs.Input.{input_answer, input_care}
use Rattle.printed.specs.Built.{refused_line, care_plane, file_network, output_values, output_care, output_work, output_roots, output_cells, Whole}
use Rattle.printed.specs.Output.{text_size, file_cared, file_text, output_of}
use Rattle.printed.specs.BuiltInput.{built_outcome, built_work, built_roots, built_cells}
use Rattle.printed.specs.Inner.Printed.{outcome_text, printed_text}
use Rattle.printed.proofs.Inputs.LoadedInput.{loaded-order, loaded-held}
use Rattle.printed.proofs.Inputs.BuiltFile as built
use Rattle.printed.proofs.Texts.FileText.{text-after}
use Rattle.printed.proofs.Texts.OutputCases.{unbuilt-text}
use Rattle.printed.proofs.Texts.NeverCut.{printed-fits}

-- buffers as the program lends them
module _ (file values care work roots cells : List ℕ) (v : length values ≡ plane_size) (c : length care ≡ plane_size)
    (w : work_size ≤ length work) (r : roots_size ≤ length roots) (k : 3 * most_nodes ≤ length cells) where
  text-read : done (input_answer file) ≡ true → printed_text file values care work roots cells ≡ file_text file
  unfolding printed_text outcome_text file_text
  text-read e =
      let D = file_network file in
      let n = file_inputs file in
      let m = file_outputs file in
      let o = built.outcome-read file values care work roots cells v c w r k e in
      let q = built.care-file file values care work roots cells v c w r k e in
      let s = built.roots-read file values care work roots cells v c w r k e in
      let t = built.cells-read file values care work roots cells v c w r k e in
      let a = built.accepted file values care work roots cells v c w r k e in
      (λ i. outcome_text (o i) (q i) (s i) (t i))
      ∙ text-after (loaded_state file) (care_plane file []) roots (drop (3 * length D.nodes) cells) D
      (to-not (loaded-held file a)) (omega (arith, built.care-length file values care work roots cells v c w r k e))
      ∙ ap
      (λ (order : List ℕ). line inputs-keyword n ++ (line outputs-keyword m ++ (order_line n order
      ++ (total_lines (file_cared file) (length D.nodes)
      ++ network_lines (length D.nodes) m D.roots (numbers_of D.nodes))))) (loaded-order file a)

  text-unread : done (input_answer file) ≡ false → printed_text file values care work roots cells ≡ refused_line (input_answer file)
  unfolding printed_text
  text-unread e =
      let a = built.outcome-unread file values care work roots cells v c w r k e in
      unbuilt-text (built_outcome file values care work roots cells) (input_care file values care)
      (built_roots file values care work roots cells) (built_cells file values care work roots cells)
      (sym (answered-ok (built_outcome file values care work roots cells)) ∙ ap done a ∙ e)
      ∙ ap refused_line a

  text-left : printed_text file values care work roots cells ≡ output_of file
  unfolding output_of
  text-left =
      built.by_answer file (printed_text file values care work roots cells) (file_text file) (refused_line (input_answer file))
      text-read text-unread

  output-fits : length (output_of file) ≤ text_size
  output-fits = subst (λ (l : List ℕ). length l ≤ text_size) text-left (printed-fits file values care work roots cells)

  -- all that the program's one call promises, from what its part on slices does
  pub all_left : {before after : List ℕ} {behind : ℕ} (values' care' work' roots' cells' : List ℕ) → text_size ≤ length before
      → built.Left file values care work roots cells (printed_text file values care work roots cells)
      (built_work file values care work roots cells) before after behind values' care' work' roots' cells'
      → Whole before after behind (output_of file) × ((values' ≡ output_values file values) × ((care' ≡ output_care file care)
      × ((work' ≡ output_work file work) × ((roots' ≡ output_roots file roots) × (cells' ≡ output_cells file cells)))))
  all_left values' care' work' roots' cells' h t =
      built.all_left file values care work roots cells v c w r k (output_of file) values' care' work' roots' cells' text-left
      (built.work-left file values care work roots cells v c w r k) (omega (arith, output-fits)) t
