-- In buffers of the program's sizes the network file is that of the input alone: the writer never refuses what a build leaves.
-- Assumes nothing.
use Rattle.std.specs.Prelude.{Ok, is_ok}
use mathlib.Core.Path.{◌≡◌, refl, sym, ap, ◌∙◌}
use mathlib.Core.Bool.{true, false}
use mathlib.Core.List.{List, [], ◌++◌}
use Prim.Native.Nat.{ℕ, ◌*◌, ◌≤◌}
use native.Mathlib.Omega.{arith}
use borrow.Author.Tests.{le-leb}
use lib.ListN.{length, get_or, drop}
use Rattle.lists.specs.Written.{over}
use Rattle.lists.proofs.Bools.{split, to-not}
use Rattle.lists.proofs.Written.Over.{length_over, get_d_over}
use Rattle.diagram.specs.Networks.Bound.{most_nodes}
use Rattle.diagram.specs.Networks.Diagram.{Diagram}
use Rattle.table.specs.Answer.{done, answer_of}
use Rattle.table.proofs.Outcomes.{answered-ok}
use Rattle.table.specs.File.{file_answer}
use Rattle.table.specs.Calls.{plane_size, loaded_state}
use Rattle.table.proofs.Held.{few-outputs}
use Rattle.fill.specs.Work.{work_size, zero_work}
use Rattle.fill.proofs.Buffers.HeldParts.{zero-zero, length-zero}
use Rattle.lent.specs.Lent.{numbers_of, roots_size}
use Rattle.lent.proofs.Sizes.{roots-size}
use Rattle.network.specs.Build.{network_state, held_network, wanted}
use Rattle.network.proofs.Building.HeldRead.{wanted-nodes, few-wanted}
use Rattle.network.proofs.LinksRead.LevelsRead.{numbers-length}
use Rattle.canonical.specs.Canonical.{canonical_answer}
use Rattle.network_file.specs.Write.{file_size, write_answer, write_work}
use Rattle.printed.specs.Input.{input_answer}
use Rattle.printed.specs.Built.{refused_line, values_plane, care_plane, file_network, network_held, output_values}
use Rattle.printed.specs.Built.{output_care, output_work, output_roots, output_cells, Whole}
use Rattle.printed.specs.BuiltInput.{built_outcome}
use Rattle.printed.proofs.Inputs.LoadedInput.{loaded-held}
use Rattle.printed.proofs.Inputs.BuiltFile as built
use Rattle.printed.proofs.Texts.NeverCut.{refused-few}
use Rattle.filed.specs.NetworkFile.{network_file_bytes, network_file_of, network_output_of}
use Rattle.filed.specs.Inner.Filed.{held_file, outcome_file, outcome_work, filed_text, filed_work}
use Rattle.filed.proofs.BuiltCanonical.{answer-built}
use Rattle.filed.proofs.FiledCases.{unbuilt-file}
use Rattle.filed.proofs.FileBytes.{file-same, file-length, file-room}

-- an accepted file
module _ (file : List ℕ) (accepted : done (file_answer file) ≡ true) where
  -- the network of what it loads
  abbrev D : Diagram
  D = file_network file

  network-loaded : held_network (loaded_state file) (values_plane file []) (care_plane file []) ≡ D
  network-loaded = built.network-loaded file accepted

  wanted-loaded : wanted (loaded_state file) (values_plane file []) (care_plane file []) ≡ length D.nodes
  wanted-loaded =
      wanted-nodes (loaded_state file) (values_plane file []) (care_plane file []) ∙ ap (λ (E : Diagram). length E.nodes) network-loaded

  few-nodes : length D.nodes ≤ most_nodes
  few-nodes =
      omega (
        arith,
        wanted-loaded,
        few-wanted (loaded_state file) (values_plane file []) (care_plane file []) (to-not (loaded-held file accepted)),
      )

  pub file-fits : length (network_file_of file) ≤ file_size
  unfolding network_file_of
  file-fits = omega (arith, file-length (network_held file) D.roots (numbers_of D.nodes), file-room (length D.nodes) few-nodes)

  -- what a build leaves in lent roots and cells
  module _ (roots cells : List ℕ) where
    abbrev references : List ℕ
    references = over (λ j. get_or D.roots j 0) roots_size roots

    abbrev numbers : List ℕ
    numbers = numbers_of D.nodes ++ drop (3 * length D.nodes) cells

    -- is section 4's network, so the writer accepts it

    canonical-file : roots_size ≤ length roots → canonical_answer (network_held file) references numbers ≡ Ok 0
    canonical-file h =
        sym
        (λ i. canonical_answer (network_state (loaded_state file) (wanted-loaded i))
        (over (λ j. get_or (network-loaded i).roots j 0) roots_size roots)
        (numbers_of (network-loaded i).nodes ++ drop (3 * wanted-loaded i) cells))
        ∙ answer-built (loaded_state file) (values_plane file []) (care_plane file []) roots cells (to-not (loaded-held file accepted)) h

    pub writes : (work out : List ℕ) → roots_size ≤ length roots → work_size ≤ length work → file_size ≤ length out
        → write_answer (network_held file) references numbers work out ≡ Ok 0
    unfolding write_answer
    writes work out r w o =
        rw (
          le-leb roots_size (length references) (omega (arith, length_over (λ j. get_or D.roots j 0) roots_size roots r)),
          le-leb work_size (length work) w,
          le-leb file_size (length out) o,
        )
        (canonical-file r)

    -- and the file is the network's, whatever else was lent
    pub file-lent : network_file_bytes (network_held file) references numbers ≡ network_file_of file
    unfolding network_file_of
    file-lent =
        let few = few-outputs (loaded_state file) (to-not (loaded-held file accepted)) in
        file-same (network_held file) references D.roots (numbers_of D.nodes) (drop (3 * length D.nodes) cells)
        (λ j h. get_d_over (λ i. get_or D.roots i 0) roots_size roots j 0 (omega (arith, roots-size))) (numbers-length D.nodes)

-- buffers as the program lends them
module _ (file values care work roots cells out : List ℕ) (v : length values ≡ plane_size) (c : length care ≡ plane_size)
    (w : work_size ≤ length work) (r : roots_size ≤ length roots) (k : 3 * most_nodes ≤ length cells) (o : file_size ≤ length out) where
  module _ (e : done (input_answer file) ≡ true) where
    accepted : done (file_answer file) ≡ true
    accepted = built.accepted file values care work roots cells v c w r k e

    written : write_answer (network_held file) (references file accepted roots cells) (numbers file accepted roots cells) (zero_work work) out
        ≡ Ok 0
    written = writes file accepted roots cells (zero_work work) out r (omega (arith, length-zero work w)) o

    text-read : filed_text file values care work roots cells out ≡ network_file_of file
    unfolding filed_text outcome_file held_file
    text-read =
        let p = built.outcome-read file values care work roots cells v c w r k e in
        let q = built.roots-read file values care work roots cells v c w r k e in
        let s = built.cells-read file values care work roots cells v c w r k e in
        let t = built.work-read file values care work roots cells v c w r k e in
        (λ i. outcome_file (p i) (q i) (s i) (t i) out) ∙ rw written (file-lent file accepted roots cells)

    work-read : filed_work file values care work roots cells out ≡ zero_work work
    unfolding filed_work outcome_work write_work
    work-read =
        let p = built.outcome-read file values care work roots cells v c w r k e in
        let q = built.roots-read file values care work roots cells v c w r k e in
        let s = built.cells-read file values care work roots cells v c w r k e in
        let t = built.work-read file values care work roots cells v c w r k e in
        (λ i. outcome_work (p i) (q i) (s i) (t i) out) ∙ rw written (zero-zero work)

  module _ (e : done (input_answer file) ≡ false) where
    answer : answer_of (built_outcome file values care work roots cells) ≡ input_answer file
    answer = built.outcome-unread file values care work roots cells v c w r k e

    unbuilt : is_ok (built_outcome file values care work roots cells) ≡ false
    unbuilt = sym (answered-ok (built_outcome file values care work roots cells)) ∙ ap done answer ∙ e

    text-unread : filed_text file values care work roots cells out ≡ refused_line (input_answer file)
    unfolding filed_text
    text-unread =
        (unbuilt-file (built_outcome file values care work roots cells) _ _ _ out unbuilt).0 ∙ ap refused_line answer

    work-unread : filed_work file values care work roots cells out ≡ work
    unfolding filed_work
    work-unread =
        (unbuilt-file (built_outcome file values care work roots cells) _ _ _ out unbuilt).1
        ∙ built.work-left file values care work roots cells v c w r k ∙ rw e refl

  text-left : filed_text file values care work roots cells out ≡ network_output_of file
  unfolding network_output_of
  text-left =
      built.by_answer file (filed_text file values care work roots cells out) (network_file_of file) (refused_line (input_answer file))
      text-read text-unread

  work-left : filed_work file values care work roots cells out ≡ output_work file work
  work-left = built.by_answer file (filed_work file values care work roots cells out) (zero_work work) work work-read work-unread

  output-fits : length (network_output_of file) ≤ file_size
  unfolding network_output_of
  output-fits =
      split (done (input_answer file)) (λ e. rw e (file-fits file (accepted e)))
      (λ e. rw e (omega (arith, refused-few (input_answer file), file-room 0 (omega arith))))

  -- all that the program's one call promises, from what its part on slices does
  pub all_left : {after : List ℕ} {behind : ℕ} (values' care' work' roots' cells' : List ℕ)
      → built.Left file values care work roots cells (filed_text file values care work roots cells out)
      (filed_work file values care work roots cells out) out after behind values' care' work' roots' cells'
      → Whole out after behind (network_output_of file) × ((values' ≡ output_values file values) × ((care' ≡ output_care file care)
      × ((work' ≡ output_work file work) × ((roots' ≡ output_roots file roots) × (cells' ≡ output_cells file cells)))))
  all_left values' care' work' roots' cells' t =
      built.all_left file values care work roots cells v c w r k (network_output_of file) values' care' work' roots' cells' text-left
      work-left (omega (arith, output-fits)) t
