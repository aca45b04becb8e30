-- A written network file passes every check of a network file.
-- Assumes nothing.
use Rattle.std.specs.Prelude.{Ok}
use mathlib.Core.Path.{◌≡◌, sym, ◌∙◌, subst, subst₂}
use mathlib.Core.Bool.{not}
use mathlib.Core.List.{List}
use Prim.Native.Nat.{ℕ, suc, ◌+◌, ◌*◌, ◌≤◌}
use native.Mathlib.Omega.{arith}
use lib.Dec.{T}
use lib.ListN.{length, length-take}
use Rattle.diagram.specs.Orders.Order.{is_order}
use Rattle.diagram.proofs.Orders.Order.{order-length}
use Rattle.block.specs.Block.{block_size, content_at}
use Rattle.table.specs.declared.State.{State}
use Rattle.table.specs.State.{order_of, stage_of, is_nothing}
use Rattle.table.specs.File.{file_inputs, file_outputs, file_order}
use Rattle.table.proofs.Files.Accepted.{AcceptedShape}
use Rattle.table.proofs.Held.{few-inputs, some-outputs, few-outputs, ordered}
use Rattle.network_file.specs.File.{count_at, roots_at, cell_blocks, carried_numbers, network_file_answer}
use Rattle.network_file.specs.Write.{heading_byte, cells_byte, block_content}
use Rattle.network_file.proofs.Format.AcceptedNetwork.{AcceptedNetworkHeading, AcceptedCells, AcceptedNetwork, network-accepted}
use Rattle.network_file.proofs.Format.AcceptedNetwork.{unused-of}
use Rattle.network_file.proofs.Format.SealedBlock.{bytes-headed, block-checked}
use Rattle.network_file.proofs.Writing.WrittenFields.{unused-field, rest-field, past-field}
use Rattle.network_file.proofs.RoundTrips.WrittenFile.{written_bytes, written-length, written_byte, heading-byte, cells-byte}
use Rattle.network_file.proofs.RoundTrips.WrittenFile.{heading-content, cells-content}
use Rattle.network_file.proofs.RoundTrips.WrittenFile.{written-inputs, written-outputs, written_count, written-order}

module _ (s : State) (roots cells : List ℕ) where
  written-cells : (k : ℕ) → 1 ≤ k → k ≤ cell_blocks s.count → AcceptedCells s.count (written_bytes s roots cells) k
  written-cells k g h =
      let F : List ℕ = written_bytes s roots cells in
      let b = bytes-headed 5 k (cells_byte s.count cells k) F (λ i l. cells-byte s roots cells k i g h l) in
      record {
        check = block-checked (block_content s roots cells k) F k (λ i l. written_byte s roots cells k i h l);
        kind = b.0;
        number = b.1;
        rest = unused-of F k (content_at + 2 * carried_numbers s.count k) _
            (λ i l m. cells-content s roots cells k i g h (omega arith) m ∙ past-field s.count cells k i l);
      }

  module _ (held : T (not (is_nothing (stage_of s)))) where
    -- the order has an entry for each variable, so the file has it
    pub held-order : file_order (written_bytes s roots cells) ≡ order_of s
    held-order =
        written-order s roots cells (few-inputs s held)
        (omega (arith, length-take s.n s.order, order-length s.n (order_of s) (ordered s held)))

    pub written-shape : AcceptedShape (written_bytes s roots cells)
    written-shape =
        let n : file_inputs (written_bytes s roots cells) ≡ s.n = written-inputs s roots cells in
        let m : file_outputs (written_bytes s roots cells) ≡ s.m = written-outputs s roots cells in
        record {
          inputs = omega (arith, few-inputs s held);
          one-output = omega (arith, some-outputs s held);
          outputs = omega (arith, few-outputs s held);
          order = subst₂ (λ (k : ℕ) (l : List ℕ). T (is_order k l)) (sym n) (sym held-order) (ordered s held);
        }

    written-heading : AcceptedNetworkHeading (written_bytes s roots cells)
    written-heading =
        let F : List ℕ = written_bytes s roots cells in
        let b = bytes-headed 4 0 (heading_byte s roots) F (heading-byte s roots cells) in
        let n : file_inputs F ≡ s.n = written-inputs s roots cells in
        let m : file_outputs F ≡ s.m = written-outputs s roots cells in
        record {
          check = block-checked (block_content s roots cells 0) F 0 (λ i l. written_byte s roots cells 0 i (omega arith) l);
          kind = b.0;
          number = b.1;
          shape = written-shape;
          between = unused-of F 0 (6 + file_inputs F) count_at
              (λ i h l. heading-content s roots cells i (omega arith) (omega arith) ∙ unused-field s roots i (omega arith) l);
          rest = unused-of F 0 (roots_at + 2 * file_outputs F) _
              (λ i h l. heading-content s roots cells i (omega arith) l ∙ rest-field s roots i (omega arith));
        }

    written-network : AcceptedNetwork (written_bytes s roots cells)
    written-network =
        let c = sym (written_count s roots cells) in
        record {
          heading = written-heading;
          long = subst (λ (x : ℕ). length (written_bytes s roots cells) ≡ block_size * suc (cell_blocks x)) c (written-length s roots cells);
          blocks = subst
              (λ (x : ℕ). (k : ℕ) → 1 ≤ k → k ≤ cell_blocks x → AcceptedCells x (written_bytes s roots cells) k) c written-cells;
        }

    pub written-accepted : network_file_answer (written_bytes s roots cells) ≡ Ok 0
    written-accepted = network-accepted (written_bytes s roots cells) written-network
