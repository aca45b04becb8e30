-- In buffers of the programs' sizes what is read and built is of the input alone: no table is refused for want of cells.
-- Assumes nothing.
use Rattle.std.specs.Prelude.{Ok}
use mathlib.Core.Path.{◌≡◌, refl, sym, ap, ◌∙◌}
use mathlib.Core.Bool.{true, false, cond}
use mathlib.Core.List.{List, [], ◌++◌, map}
use Prim.Native.Nat.{ℕ, ◌*◌, ◌≤◌}
use native.Mathlib.Omega.{arith}
use borrow.Author.Tests.{le-leb}
use lib.ListN.{length, get_or, drop, length-append, length-drop, drop_of_length-le}
use lib.Seq.{drop-nil}
use Rattle.lists.specs.Lists.{up_to}
use Rattle.lists.specs.Written.{over}
use Rattle.lists.proofs.Bools.{split}
use Rattle.lists.proofs.Numbers.UpTo.{length-map-up_to}
use Rattle.diagram.specs.Networks.Bound.{most_nodes}
use Rattle.diagram.specs.Networks.Diagram.{Diagram}
use Rattle.diagram.specs.Table.{network_of}
use Rattle.table.specs.declared.State.{State}
use Rattle.table.specs.Answer.{done, answer_of}
use Rattle.table.proofs.Outcomes.{outcome-answer, answered-ok}
use Rattle.table.proofs.Variants.{refused-first, done-first}
use Rattle.table.specs.Stream.{table_of}
use Rattle.table.specs.File.{file_inputs, file_outputs, file_answer}
use Rattle.table.specs.Calls.{plane_size, load_answer, loaded_state, load_outcome, load_values, load_care}
use Rattle.fill.specs.Work.{work_size, zero_work}
use Rattle.lent.specs.Lent.{numbers_of, roots_size}
use Rattle.network.specs.Build.{network_state, held_network, wanted, capacity, build_answer, build_outcome}
use Rattle.network.proofs.Building.HeldRead.{wanted-nodes}
use Rattle.network.proofs.Building.Outcomes.{done-outcome, done-roots, done-cells, work-cleared}
use Rattle.text.specs.Written.{Written}
use Rattle.text.proofs.Writing.{written_as}
use Rattle.printed.specs.Input.{too_long, input_answer, input_outcome, input_values, input_care}
use Rattle.printed.specs.Built.{values_plane, care_plane, file_network, network_held, output_values}
use Rattle.printed.specs.Built.{output_care, output_work, output_roots, output_cells, Whole}
use Rattle.printed.specs.BuiltInput.{read, is_read, built_outcome, built_work, built_roots, built_cells}
use Rattle.printed.proofs.Inputs.LoadedInput.{loaded-order, read-accepted}
use Rattle.printed.proofs.Inputs.BoardEnough.{answer-done}
use Rattle.printed.proofs.Texts.WholeTexts.{whole-text}

-- by whether an input is accepted
pub by_answer : (file : List ℕ) {A : Type 0} (x y z : A) → (done (input_answer file) ≡ true → x ≡ y)
    → (done (input_answer file) ≡ false → x ≡ z) → x ≡ cond (done (input_answer file)) y z
by_answer file x y z f g = split (done (input_answer file)) (λ e. rw e (f e)) (λ e. rw e (g e))

-- a plane of its size has nothing past it
module _ (f : ℕ → ℕ) where
  plane-length : length (over f plane_size []) ≡ plane_size
  plane-length =
      omega (
        arith,
        length-append (map f (up_to plane_size)) (drop plane_size []),
        length-map-up_to f plane_size,
        length-drop {A = ℕ} plane_size [],
      )

  plane-exact : (plane : List ℕ) → length plane ≡ plane_size → over f plane_size plane ≡ over f plane_size []
  plane-exact plane h =
      let e : length plane ≤ plane_size = omega arith in
      ap (λ (l : List ℕ). map f (up_to plane_size) ++ l) (drop_of_length-le plane e ∙ sym (drop-nil plane_size))

-- the network of what an accepted file loads
pub network-loaded : (file : List ℕ) → done (file_answer file) ≡ true
    → held_network (loaded_state file) (values_plane file []) (care_plane file []) ≡ file_network file
unfolding held_network file_network
network-loaded file e =
    ap (network_of true (table_of (file_inputs file) (file_outputs file) (values_plane file []) (care_plane file []))) (loaded-order file e)

-- what a program leaves of an input: its text, and the contents of the other buffers
abbrev pub Left : (file values care work roots cells text working before after : List ℕ) (behind : ℕ)
    (values' care' work' roots' cells' : List ℕ) → Type 0
Left file values care work roots cells text working before after behind values' care' work' roots' cells' =
    Written before after 0 behind text
    × ((values' ≡ input_values file values care) × ((care' ≡ input_care file values care) × ((work' ≡ working)
    × ((roots' ≡ built_roots file values care work roots cells) × (cells' ≡ built_cells file values care work roots cells)))))

-- buffers as the programs lend them
module _ (file values care work roots cells : List ℕ) (v : length values ≡ plane_size) (c : length care ≡ plane_size)
    (w : work_size ≤ length work) (r : roots_size ≤ length roots) (k : 3 * most_nodes ≤ length cells) where
  -- the input is refused for itself alone
  load-file : load_answer file values care ≡ file_answer file
  unfolding load_answer
  load-file = rw (le-leb plane_size (length values) (omega arith), le-leb plane_size (length care) (omega arith))

  read_answer : answer_of (read file values care) ≡ input_answer file
  unfolding input_outcome load_outcome input_answer
  read_answer =
      split (too_long file) (λ e. rw e)
      (λ e. rw e (outcome-answer (load_answer file values care) (loaded_state file) ∙ load-file))

  read-done : is_read file values care ≡ done (input_answer file)
  read-done = sym (answered-ok (read file values care)) ∙ ap done read_answer

  values-left : input_values file values care ≡ output_values file values
  unfolding input_values load_values input_answer
  values-left = split (too_long file) (λ e. rw e) (λ e. rw (e, load-file))

  care-left : input_care file values care ≡ output_care file care
  unfolding input_care load_care input_answer
  care-left = split (too_long file) (λ e. rw e) (λ e. rw (e, load-file))

  -- an input that is accepted
  module _ (e : done (input_answer file) ≡ true) where
    was_read : is_read file values care ≡ true
    was_read = read-done ∙ e

    pub accepted : done (file_answer file) ≡ true
    accepted = read-accepted file values care was_read

    abbrev s : State
    s = loaded_state file

    abbrev vs : List ℕ
    vs = input_values file values care

    abbrev cs : List ℕ
    cs = input_care file values care

    values-file : vs ≡ values_plane file []
    values-file = values-left ∙ rw e (plane-exact _ values v)

    pub care-length : length (care_plane file []) ≡ plane_size
    care-length = plane-length _

    pub care-file : cs ≡ care_plane file []
    care-file = care-left ∙ rw e (plane-exact _ care c)

    network-file : held_network s vs cs ≡ file_network file
    network-file = (λ i. held_network s (values-file i) (care-file i)) ∙ network-loaded file accepted

    wanted-file : wanted s vs cs ≡ length (file_network file).nodes
    wanted-file = wanted-nodes s vs cs ∙ ap (λ (D : Diagram). length D.nodes) network-file

    board : most_nodes ≤ capacity cells
    board = omega arith

    builds : build_answer s vs cs work roots cells ≡ Ok (wanted s vs cs)
    builds = answer-done file values care work roots cells w r board was_read

    pub work-read : built_work file values care work roots cells ≡ zero_work work
    unfolding built_work
    work-read = rw was_read (sym (work-cleared s vs cs work roots cells (Ok (wanted s vs cs)) builds refl))

    pub roots-read : built_roots file values care work roots cells ≡ over (λ j. get_or (file_network file).roots j 0) roots_size roots
    unfolding built_roots
    roots-read =
        rw was_read
        (sym (done-roots s vs cs work roots cells builds)
        ∙ ap (λ (D : Diagram). over (λ j. get_or D.roots j 0) roots_size roots) network-file)

    pub cells-read : built_cells file values care work roots cells
        ≡ numbers_of (file_network file).nodes ++ drop (3 * length (file_network file).nodes) cells
    unfolding built_cells
    cells-read =
        rw was_read
        (sym (done-cells s vs cs work roots cells builds) ∙ (λ i. numbers_of (network-file i).nodes ++ drop (3 * wanted-file i) cells))

    -- the state after the build holds the input's network
    pub outcome-read : built_outcome file values care work roots cells
        ≡ Ok (record { value = length (file_network file).nodes; state = network_held file })
    unfolding built_outcome
    outcome-read =
        done-first (read file values care) (build_outcome s vs cs work roots cells) was_read
        ∙ sym (done-outcome s vs cs work roots cells builds)
        ∙ (λ i. Ok (record { value = wanted-file i; state = network_state s (wanted-file i) }))

  -- what is left in the buffers of the build

  unread : done (input_answer file) ≡ false → is_read file values care ≡ false
  unread e = read-done ∙ e

  pub outcome-unread : done (input_answer file) ≡ false
      → answer_of (built_outcome file values care work roots cells) ≡ input_answer file
  unfolding built_outcome
  outcome-unread e =
      ap answer_of (refused-first (read file values care)
      (build_outcome (loaded_state file) (input_values file values care) (input_care file values care) work roots cells) (unread e))
      ∙ read_answer

  pub work-left : built_work file values care work roots cells ≡ output_work file work
  unfolding built_work
  work-left = by_answer file (built_work file values care work roots cells) (zero_work work) work work-read (λ e. rw (unread e))

  roots-left : built_roots file values care work roots cells ≡ output_roots file roots
  unfolding built_roots
  roots-left =
      by_answer file (built_roots file values care work roots cells)
      (over (λ j. get_or (file_network file).roots j 0) roots_size roots) roots roots-read (λ e. rw (unread e))

  cells_left : built_cells file values care work roots cells ≡ output_cells file cells
  unfolding built_cells
  cells_left =
      by_answer file (built_cells file values care work roots cells)
      (numbers_of (file_network file).nodes ++ drop (3 * length (file_network file).nodes) cells) cells cells-read (λ e. rw (unread e))

  -- all that a program's one call promises, from what its part on slices does, where its text is the output and has room
  pub all_left : {before after : List ℕ} {behind : ℕ} {text working : List ℕ} (output values' care' work' roots' cells' : List ℕ)
      → text ≡ output → working ≡ output_work file work → length output ≤ length before
      → Left file values care work roots cells text working before after behind values' care' work' roots' cells'
      → Whole before after behind output × ((values' ≡ output_values file values) × ((care' ≡ output_care file care)
      × ((work' ≡ output_work file work) × ((roots' ≡ output_roots file roots) × (cells' ≡ output_cells file cells)))))
  all_left {before} output values' care' work' roots' cells' p q h (t, (a, (b, (d, (e, f))))) =
      (whole-text before output h (written_as p t), (a ∙ values-left, (b ∙ care-left, (d ∙ q, (e ∙ roots-left, f ∙ cells_left)))))
