-- What is written is read again: of a written file the reader makes the same state, roots and cells, and the table that they compute.
-- Assumes nothing.
use Rattle.std.specs.Prelude.{Ok}
use mathlib.Core.Path.{◌≡◌, refl, sym, ap, ap₂, ◌∙◌, subst, subst₂}
use mathlib.Core.Bool.{true, cond}
use mathlib.Core.List.{List}
use Prim.Native.Nat.{ℕ, ◌*◌, ◌≤◌}
use native.Mathlib.Omega.{arith}
use borrow.Author.Tests.{ltb-true, ltb-false}
use lib.Dec.{T, ltb}
use lib.ListN.{get_or, take}
use Rattle.lists.specs.Written.{over}
use Rattle.lists.proofs.Bools.{split, of_T}
use Rattle.lists.proofs.Written.Over.{over-cong}
use Rattle.diagram.specs.Networks.Bound.{most_outputs}
use Rattle.diagram.specs.Networks.Diagram.{Diagram, well_formed}
use Rattle.diagram.specs.Canonical.Computed.{computed_table, canonical}
use Rattle.diagram.specs.Table.{Table}
use Rattle.table.specs.declared.State.{State}
use Rattle.table.specs.declared.Stage.TheVariants.{Network}
use Rattle.table.specs.Answer.{Outcome, done}
use Rattle.table.specs.State.{order_of}
use Rattle.table.specs.File.{file_inputs, file_outputs, file_order}
use Rattle.table.specs.Stream.{plane_byte}
use Rattle.table.specs.Calls.{plane_size}
use Rattle.table.proofs.Held.{few-outputs}
use Rattle.lent.specs.Lent.{roots_size, lent_diagram}
use Rattle.lent.specs.Tabulate.{lent_table}
use Rattle.network.specs.Build.{capacity, long_enough}
use Rattle.canonical.proofs.Answered.{Success}
use Rattle.network_file.specs.File.{file_count, file_root, cell_number, file_diagram}
use Rattle.network_file.specs.Read.{read_answer, read_state, read_outcome, read_table, read_values, read_care, read_roots, read_cells}
use Rattle.network_file.specs.Write.{write_answer, written_file}
use Rattle.network_file.proofs.Reading.Copied.{outputs-fit, Copied, copied-diagram}
use Rattle.network_file.proofs.Reading.Checked.{Passed, checked}
use Rattle.network_file.proofs.Reading.ReadAnswer.{last-tests}
use Rattle.network_file.proofs.Reading.ReadState.{order-of}
use Rattle.network_file.proofs.Writing.WriteCall.{network-passed}
use Rattle.network_file.proofs.RoundTrips.WrittenFile.{written_size, written_bytes, the-file, written-inputs, written-outputs}
use Rattle.network_file.proofs.RoundTrips.WrittenFile.{written_count, written-root, written-no-root, written-cell}
use Rattle.network_file.proofs.RoundTrips.WrittenAccepted.{held-order, written-shape, written-accepted}

-- of a call that read what was written of s, roots and cells: its outcome o, and the lent values, care, roots and cells before and after
pub record ReadAgain (s : State) (roots cells : List ℕ) (o : Outcome)
    (values-before care-before roots-before cells-before values-after care-after roots-after cells-after : List ℕ) : Type 0 where
  -- 0, and the state after it
  pub left : State
  pub answered : o ≡ Ok (record { value = 0; state = left })
  pub inputs : left.n ≡ s.n
  pub outputs : left.m ≡ s.m
  pub counted : left.count ≡ s.count
  pub staged : left.stage ≡ Network
  -- the first n entries
  pub ordered : order_of left ≡ order_of s
  -- the first m roots, then zeros; the counted cells
  pub rooted : roots-after ≡ over (λ j. cond (ltb j s.m) (get_or roots j 0) 0) roots_size roots-before
  pub celled : cells-after ≡ over (λ x. get_or cells x 0) (3 * s.count) cells-before
  -- 'the table that the cells compute in values, and every row cared': that of the cells written; past the stream both are zero
  pub valued : values-after ≡ over (plane_byte (λ x. x.value) (lent_table s roots cells)) plane_size values-before
  pub cared : care-after ≡ over (plane_byte (λ x. x.care) (lent_table s roots cells)) plane_size care-before

module _ (s : State) (roots cells : List ℕ) (p : Success s roots cells) where
  -- what was written is a copy of the file's numbers
  written-copy : Copied (written_bytes s roots cells) cells roots
  written-copy =
      let F : List ℕ = written_bytes s roots cells in
      let c : file_count F ≡ s.count = written_count s roots cells in
      let m : file_outputs F ≡ s.m = written-outputs s roots cells in
      record {
        cell = λ x h. sym (written-cell s roots cells x (omega arith));
        root = λ j h. sym (written-root s roots cells (few-outputs s p.held) j (omega arith));
        enough-cells = omega (arith, p.enough);
        enough-roots = p.long;
      }

  -- so its diagram, and the table that this computes, are those of the cells and roots
  written-diagram : file_diagram (written_bytes s roots cells) ≡ lent_diagram s.count s.m cells roots
  written-diagram =
      let F : List ℕ = written_bytes s roots cells in
      sym (copied-diagram F (outputs-fit F (written-shape s roots cells p.held)) cells roots written-copy)
      ∙ ap₂ (λ (x y : ℕ). lent_diagram x y cells roots) (written_count s roots cells) (written-outputs s roots cells)

  written-table : read_table (written_bytes s roots cells) ≡ lent_table s roots cells
  written-table =
      λ i. computed_table true (written-inputs s roots cells i) (written-outputs s roots cells i) (held-order s roots cells p.held i)
      (written-diagram i)

  -- and the file passes the tests that the cells and roots passed
  written-passed : Passed (written_bytes s roots cells)
  written-passed =
      let F : List ℕ = written_bytes s roots cells in
      let n : file_inputs F ≡ s.n = written-inputs s roots cells in
      let m : file_outputs F ≡ s.m = written-outputs s roots cells in
      let o : file_order F ≡ order_of s = held-order s roots cells p.held in
      let d : file_diagram F ≡ lent_diagram s.count s.m cells roots = written-diagram in
      record {
        formed = subst₂ (λ (x y : ℕ). T (well_formed true x y (file_diagram F))) (sym n) (sym m)
            (subst (λ (D : Diagram). T (well_formed true s.n s.m D)) (sym d) p.formed);
        network = subst₂ (λ (x y : ℕ). T (canonical true x y (file_order F) (file_diagram F))) (sym n) (sym m)
            (subst₂ (λ (l : List ℕ) (D : Diagram). T (canonical true s.n s.m l D)) (sym o) (sym d) p.network);
      }

  module _ (values care work' roots' cells' : List ℕ) (l : T (long_enough values care work' roots')) (b : s.count ≤ capacity cells') where
    pub written-answer : read_answer (written_bytes s roots cells) values care work' roots' cells' ≡ Ok 0
    written-answer =
        let F : List ℕ = written_bytes s roots cells in
        let c : file_count F ≡ s.count = written_count s roots cells in
        sym (last-tests F values care work' roots' cells' (of_T l) (ap done (written-accepted s roots cells p.held)) (omega arith))
        ∙ checked F written-passed

    again : ReadAgain s roots cells (read_outcome (written_bytes s roots cells) values care work' roots' cells')
        values care roots' cells' (read_values (written_bytes s roots cells) values care work' roots' cells')
        (read_care (written_bytes s roots cells) values care work' roots' cells')
        (read_roots (written_bytes s roots cells) values care work' roots' cells')
        (read_cells (written_bytes s roots cells) values care work' roots' cells')
    unfolding read_outcome read_values read_care read_roots read_cells roots_size
    again =
        let F : List ℕ = written_bytes s roots cells in
        let few : s.m ≤ most_outputs = few-outputs s p.held in
        rw written-answer
        record {
          left = read_state F;
          answered = refl;
          inputs = written-inputs s roots cells;
          outputs = written-outputs s roots cells;
          counted = written_count s roots cells;
          staged = refl;
          ordered = order-of F (written-shape s roots cells p.held) ∙ held-order s roots cells p.held;
          rooted = over-cong (file_root F) (λ j. cond (ltb j s.m) (get_or roots j 0) 0) roots_size roots'
              (λ j q. split (ltb j s.m) (λ e. rw e (written-root s roots cells few j (ltb-true j s.m e)))
              (λ e. rw e (written-no-root s roots cells few j (ltb-false j s.m e) q)));
          celled = ap (λ (x : ℕ). over (cell_number F) (3 * x) cells') (written_count s roots cells)
              ∙ over-cong (cell_number F) (λ x. get_or cells x 0) (3 * s.count) cells' (written-cell s roots cells);
          valued = ap (λ (t : Table). over (plane_byte (λ x. x.value) t) plane_size values) written-table;
          cared = ap (λ (t : Table). over (plane_byte (λ x. x.care) t) plane_size care) written-table;
        }

pub written_read : (s : State) (roots cells work buffer : List ℕ) → done (write_answer s roots cells work buffer) ≡ true
    → (values care work' roots' cells' : List ℕ) → T (long_enough values care work' roots') → s.count ≤ capacity cells'
    → (file : List ℕ) → file ≡ take (written_size s) (written_file s roots cells work buffer)
    → ReadAgain s roots cells (read_outcome file values care work' roots' cells') values care roots' cells'
    (read_values file values care work' roots' cells') (read_care file values care work' roots' cells')
    (read_roots file values care work' roots' cells') (read_cells file values care work' roots' cells')
written_read s roots cells work buffer e values care work' roots' cells' l b file q =
    subst
    (λ (F : List ℕ). ReadAgain s roots cells (read_outcome F values care work' roots' cells') values care roots' cells'
    (read_values F values care work' roots' cells') (read_care F values care work' roots' cells')
    (read_roots F values care work' roots' cells') (read_cells F values care work' roots' cells'))
    (sym (q ∙ the-file s roots cells work buffer e))
    (again s roots cells (network-passed s roots cells work buffer e) values care work' roots' cells' l b)
