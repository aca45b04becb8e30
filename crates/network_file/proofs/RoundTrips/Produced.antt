-- Document 02, 2.2: 'Given board enough, the reader accepts exactly what the writer can produce, and both ways round the content is the
-- same.' Laws written-read and read-written are the two ways round; this is what is accepted.
-- Assumes nothing.
use mathlib.Core.Path.{◌≡◌, sym, ap, ◌∙◌, subst}
use mathlib.Core.Bool.{true}
use mathlib.Core.List.{List}
use mathlib.Core.Logic.{◌↔◌}
use Prim.Native.Nat.{ℕ, suc, ◌+◌, ◌*◌, ◌/◌, ◌%◌, ◌≤◌}
use native.Mathlib.Omega.{arith}
use lib.Dec.{T}
use lib.ListN.{take, replicate, length-replicate}
use Rattle.lists.proofs.Bools.{of_T, to-T}
use Rattle.block.specs.Numbers.{are_bytes, number_limit}
use Rattle.table.specs.declared.State.{State}
use Rattle.table.specs.Answer.{done}
use Rattle.fill.specs.Work.{work_size}
use Rattle.lent.specs.Lent.{roots_size}
use Rattle.network.specs.Build.{capacity, long_enough}
use Rattle.canonical.proofs.Answered.{Success}
use Rattle.network_file.specs.File.{block_numbers, file_count, file_root, cell_number}
use Rattle.network_file.specs.Read.{read_answer, read_state}
use Rattle.network_file.specs.Write.{file_size, write_answer, written_file}
use Rattle.network_file.proofs.Format.AcceptedNetwork.{accepted-network}
use Rattle.network_file.proofs.Format.SealedBlock.{Bytes}
use Rattle.network_file.proofs.Reading.Copied.{outputs-fit, file_cells, file_roots, own-copy}
use Rattle.network_file.proofs.Reading.Checked.{shape_of}
use Rattle.network_file.proofs.Reading.ReadAnswer.{success}
use Rattle.network_file.proofs.Writing.WriteCall.{writable, network-passed}
use Rattle.network_file.proofs.RoundTrips.WrittenFile.{written_size, written_bytes, the-file, written_count}
use Rattle.network_file.proofs.RoundTrips.WrittenSmall.{are_numbers, small-listed, bytes_small, content-small, written_small}
use Rattle.network_file.proofs.RoundTrips.WrittenRead.{written-answer}
use Rattle.network_file.proofs.RoundTrips.ReadWritten.{copy_written}

-- that the writer can produce this file: of some state, with some roots and cells lent, it writes the file with a success
pub record Produced (file : List ℕ) : Type 0 where
  pub state : State
  pub roots : List ℕ
  pub cells : List ℕ
  pub work : List ℕ
  pub buffer : List ℕ
  pub roots-numbers : T (are_numbers roots)
  pub cells-numbers : T (are_numbers cells)
  pub success : done (write_answer state roots cells work buffer) ≡ true
  pub first : take (written_size state) (written_file state roots cells work buffer) ≡ file

module _ (file values care work roots cells : List ℕ) where
  produced : T (are_bytes file) → T (done (read_answer file values care work roots cells)) → Produced file
  produced t d =
      let small : Bytes file = bytes_small file t in
      let r = success file values care work roots cells (of_T d) in
      let W : List ℕ = replicate work_size 0 in
      let B : List ℕ = replicate file_size 0 in
      let again = copy_written file (file_roots file) (file_cells file) W B t r.accepted r.checked
      (own-copy file (outputs-fit file (shape_of file r.accepted))) (omega (arith, length-replicate {A = ℕ} work_size 0))
      (omega (arith, length-replicate {A = ℕ} file_size 0)) in
      record {
        state = read_state file;
        roots = file_roots file;
        cells = file_cells file;
        work = W;
        buffer = B;
        roots-numbers = small-listed number_limit roots_size (file_root file) (λ i g. content-small file small 0 (7 + i));
        cells-numbers = small-listed number_limit (3 * file_count file) (cell_number file)
            (λ i g. content-small file small (suc (i / block_numbers)) (i % block_numbers));
        success = ap done again.answered;
        first = subst (λ (n : ℕ). take n (written_file (read_state file) (file_roots file) (file_cells file) W B) ≡ file)
            (accepted-network file (to-T r.accepted)).long again.first;
      }

  module _ (p : Produced file) where
    tested : Success p.state p.roots p.cells
    tested = network-passed p.state p.roots p.cells p.work p.buffer p.success

    is-file : written_bytes p.state p.roots p.cells ≡ file
    is-file = sym (the-file p.state p.roots p.cells p.work p.buffer p.success) ∙ p.first

    produced-bytes : T (are_bytes file)
    produced-bytes =
        subst (λ (f : List ℕ). T (are_bytes f)) is-file
        (written_small p.state p.roots p.cells (writable p.state p.roots p.cells tested) p.roots-numbers
        p.cells-numbers)

    produced-accepted : T (long_enough values care work roots) → file_count file ≤ capacity cells
        → T (done (read_answer file values care work roots cells))
    produced-accepted l b =
        let c : file_count file ≡ p.state.count = ap file_count (sym is-file) ∙ written_count p.state p.roots p.cells in
        subst (λ (f : List ℕ). T (done (read_answer f values care work roots cells))) is-file
        (to-T (ap done (written-answer p.state p.roots p.cells tested values care work roots cells l (omega arith))))

  -- buffers long enough, and board for the cells: the accepted lists of bytes are those that the writer can produce
  pub accepted-iff : T (long_enough values care work roots) → file_count file ≤ capacity cells
      → (T (are_bytes file) × T (done (read_answer file values care work roots cells))) ↔ Produced file
  accepted-iff l b = (λ q. produced q.0 q.1, λ p. (produced-bytes p, produced-accepted p l b))
