-- What is read is written again: of what was read from a file the writer makes the file's bytes.
-- Assumes nothing.
use Rattle.std.specs.Prelude.{Ok}
use mathlib.Core.Path.{◌≡◌, sym, ap, ◌∙◌, subst, subst₂}
use mathlib.Core.Bool.{true}
use mathlib.Core.List.{List}
use Prim.Native.Nat.{ℕ, ◌≤◌}
use lib.Dec.{T}
use lib.ListN.{length, take}
use Rattle.lists.proofs.Bools.{to-T}
use Rattle.block.specs.Numbers.{are_bytes}
use Rattle.table.specs.Answer.{Answer}
use Rattle.table.specs.declared.State.{State}
use Rattle.table.specs.Answer.{done, state_after}
use Rattle.table.proofs.Outcomes.{outcome-state}
use Rattle.fill.specs.Work.{work_size}
use Rattle.network_file.specs.File.{network_file_answer}
use Rattle.network_file.specs.Read.{read_answer, read_state, read_outcome, read_roots, read_cells}
use Rattle.network_file.specs.Write.{file_size, write_answer, written_file}
use Rattle.network_file.specs.Inner.Checked.{checked_answer, Readable}
use Rattle.network_file.proofs.Format.AcceptedNetwork.{AcceptedNetwork, accepted-network}
use Rattle.network_file.proofs.Reading.Copied.{outputs-fit, Copied, copied-over}
use Rattle.network_file.proofs.Reading.Checked.{shape_of, copy-checked, passed, checked}
use Rattle.network_file.proofs.Reading.ReadAnswer.{success}
use Rattle.network_file.proofs.Writing.WriteCall.{answered}
use Rattle.network_file.proofs.RoundTrips.WrittenFile.{the-file}
use Rattle.network_file.proofs.RoundTrips.WrittenSmall.{bytes_small}
use Rattle.network_file.proofs.RoundTrips.SameBytes.{written_same}

-- of a call that wrote what was read from the file: its answer, and the file buffer after it
pub record WrittenAgain (file : List ℕ) (answer : Answer) (buffer : List ℕ) : Type 0 where
  pub answered : answer ≡ Ok 0
  pub first : take (length file) buffer ≡ file

-- a copy of the numbers of a file that passes every test, written with the file's state
pub copy_written : (file roots cells work buffer : List ℕ) → T (are_bytes file) → done (network_file_answer file) ≡ true
    → done (checked_answer file) ≡ true → Copied file cells roots → work_size ≤ length work → file_size ≤ length buffer
    → WrittenAgain file (write_answer (read_state file) roots cells work buffer) (written_file (read_state file) roots cells work buffer)
copy_written file roots cells work buffer t accepted good copy h l =
    let s : State = read_state file in
    let a : AcceptedNetwork file = accepted-network file (to-T accepted) in
    let e : write_answer s roots cells work buffer ≡ Ok 0 =
    sym (answered s roots cells work buffer copy.enough-roots h l (Ok 0)
    (sym (copy-checked file a.heading.shape cells roots copy ∙ checked file (passed file good)))) in
    record {
      answered = e;
      first = subst (λ (n : ℕ). take n (written_file s roots cells work buffer) ≡ file) (sym a.long)
          (the-file s roots cells work buffer (ap done e) ∙ written_same file roots cells (bytes_small file t) a copy);
    }

-- what a call leaves that reads the file
module _ (file values care work roots cells : List ℕ) (e : done (read_answer file values care work roots cells) ≡ true) where
  readable : Readable file values care roots cells
  readable = success file values care work roots cells e

  read-copy : Copied file (read_cells file values care work roots cells) (read_roots file values care work roots cells)
  unfolding read_roots read_cells
  read-copy =
      let r = readable in
      copied-over file (outputs-fit file (shape_of file r.accepted)) cells roots _ _ r.cells-room r.roots-room (rw e) (rw e)

  read-outcome : (before : State) → state_after before (read_outcome file values care work roots cells) ≡ read_state file
  unfolding read_outcome
  read-outcome before = outcome-state (read_answer file values care work roots cells) before (read_state file) e

  -- s, R and C are the state, the roots and the cells that the reader leaves
  pub read-written : T (are_bytes file) → (work' buffer : List ℕ) → work_size ≤ length work' → file_size ≤ length buffer
      → (before s : State) (R C : List ℕ) → s ≡ state_after before (read_outcome file values care work roots cells)
      → R ≡ read_roots file values care work roots cells → C ≡ read_cells file values care work roots cells
      → WrittenAgain file (write_answer s R C work' buffer) (written_file s R C work' buffer)
  read-written t work' buffer h l before s R C is_state is-roots is-cells =
      let r = readable in
      subst (λ (x : State). WrittenAgain file (write_answer x R C work' buffer) (written_file x R C work' buffer))
      (sym (is_state ∙ read-outcome before))
      (copy_written file R C work' buffer t r.accepted r.checked
      (subst₂ (Copied file) (sym is-cells) (sym is-roots) read-copy) h l)
