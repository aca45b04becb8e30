-- A copy of what an accepted network file has, written with the file's state, gives the file's bytes again.
-- Assumes nothing.
use mathlib.Core.Path.{◌≡◌, sym, ap, ap₂, ◌∙◌}
use mathlib.Core.Bool.{cond}
use mathlib.Core.List.{List}
use Prim.Native.Nat.{ℕ, suc, ◌+◌, ◌*◌, ◌-◌, ◌/◌, ◌%◌, ◌≤◌, ◌<◌}
use native.Mathlib.Omega.{arith}
use borrow.Author.Tests.{lt-ltb, ltb-true, ltb-false, eqb-true, eqb-false}
use lib.Dec.{eqb, ltb}
use Rattle.lists.proofs.Bools.{split}
use Rattle.lists.proofs.Numbers.UpTo.{get_or-map-up_to}
use Rattle.diagram.specs.Networks.Bound.{most_variables}
use Rattle.block.specs.Block.{content_at, check_at, byte}
use Rattle.block.specs.Numbers.{number_byte}
use Rattle.table.specs.File.{file_inputs, file_outputs}
use Rattle.network_file.specs.File.{count_at, roots_at, block_numbers, content_number, file_count, cell_blocks, carried_numbers}
use Rattle.network_file.specs.Read.{read_state}
use Rattle.network_file.specs.Write.{heading_byte, cells_byte, block_content}
use Rattle.network_file.proofs.Format.AcceptedNetwork.{AcceptedNetwork, AcceptedCells, unused-at}
use Rattle.network_file.proofs.Format.SealedBlock.{Bytes, content-byte, headed-bytes, block-sealed}
use Rattle.network_file.proofs.Reading.Copied.{Copied}
use Rattle.network_file.proofs.Writing.WrittenFields.{inputs-field, outputs-field, order-field, unused-field, count-field, root-field}
use Rattle.network_file.proofs.Writing.WrittenFields.{rest-field, carried-field, past-field}
use Rattle.network_file.proofs.RoundTrips.WrittenFile.{written_bytes, written_is}

module _ (file roots cells : List ℕ) (small : Bytes file) (a : AcceptedNetwork file) (copy : Copied file cells roots) where
  -- the heading, field by field

  same-order : (i : ℕ) → 6 ≤ i → i < 6 + file_inputs file → byte file 0 i ≡ heading_byte (read_state file) roots i
  same-order i h l =
      let n : ℕ = file_inputs file in
      let g : file_inputs file ≤ most_variables = a.heading.shape.inputs in
      let d : 6 + (i - 6) ≡ i = omega arith in
      let f : ℕ → ℕ = λ p. byte file 0 (6 + p) in
      sym (order-field (read_state file) roots i h l g
      ∙ get_or-map-up_to (λ p. cond (ltb p n) (f p) 0) most_variables (i - 6) 0 (omega arith)
      ∙ rw (lt-ltb (i - 6) (file_inputs file) (omega arith)) (ap (byte file 0) d))

  same_count : (i : ℕ) → count_at ≤ i → i < roots_at → byte file 0 i ≡ heading_byte (read_state file) roots i
  same_count i h l =
      let q : (i - content_at) / 2 ≡ 6 = omega arith in
      let r : (i - content_at) % 2 ≡ i - count_at = omega arith in
      sym (content-byte file small 0 i (omega arith)) ∙ ap₂ (λ (x y : ℕ). number_byte (content_number file 0 x) y) q r
      ∙ sym (count-field (read_state file) roots i h l)

  same-root : (i : ℕ) → roots_at ≤ i → i < roots_at + 2 * file_outputs file → byte file 0 i ≡ heading_byte (read_state file) roots i
  same-root i h l =
      let q : (i - content_at) / 2 ≡ 7 + (i - roots_at) / 2 = omega arith in
      let r : (i - content_at) % 2 ≡ (i - roots_at) % 2 = omega arith in
      sym (content-byte file small 0 i (omega arith)) ∙ ap₂ (λ (x y : ℕ). number_byte (content_number file 0 x) y) q r
      ∙ ap (λ (x : ℕ). number_byte x ((i - roots_at) % 2)) (sym (copy.root ((i - roots_at) / 2) (omega arith)))
      ∙ sym (root-field (read_state file) roots i h l)

  same-heading : (i : ℕ) → content_at ≤ i → i < check_at → byte file 0 i ≡ heading_byte (read_state file) roots i
  same-heading i h l =
      let s = read_state file in
      let n : ℕ = file_inputs file in
      let m : ℕ = file_outputs file in
      split (eqb i 4) (λ e. rw (eqb-true i 4 e) (sym (inputs-field s roots)))
      (λ e4. split (eqb i 5) (λ e. rw (eqb-true i 5 e) (sym (outputs-field s roots)))
      (λ e5. let past : 6 ≤ i = omega (arith, eqb-false i 4 e4, eqb-false i 5 e5) in
      split (ltb i (6 + n)) (λ e. same-order i past (ltb-true i (6 + n) e))
      (λ en. let o : 6 + n ≤ i = ltb-false i (6 + n) en in
      split (ltb i count_at)
      (λ e. let u : i < count_at = ltb-true i count_at e in
      unused-at file 0 (6 + n) count_at a.heading.between i o u ∙ sym (unused-field s roots i o u))
      (λ ec. let c : count_at ≤ i = ltb-false i count_at ec in
      split (ltb i roots_at) (λ e. same_count i c (ltb-true i roots_at e))
      (λ er. let r : roots_at ≤ i = ltb-false i roots_at er in
      split (ltb i (roots_at + 2 * m)) (λ e. same-root i r (ltb-true i (roots_at + 2 * m) e))
      (λ e. let z : roots_at + 2 * m ≤ i = ltb-false i (roots_at + 2 * m) e in
      unused-at file 0 (roots_at + 2 * m) check_at a.heading.rest i z l ∙ sym (rest-field s roots i z)))))))

  -- the blocks of cells

  module _ (k : ℕ) (g : 1 ≤ k) (h : k ≤ cell_blocks (file_count file)) (i : ℕ) (h4 : content_at ≤ i) where
    same-carried : i < content_at + 2 * carried_numbers (file_count file) k → byte file k i ≡ cells_byte (file_count file) cells k i
    same-carried l =
        let c : ℕ = file_count file in
        let x : ℕ = block_numbers * (k - 1) + (i - content_at) / 2 in
        let q : suc ((block_numbers * (k - 1) + (i - content_at) / 2) / block_numbers) ≡ k = omega arith in
        let r : (block_numbers * (k - 1) + (i - content_at) / 2) % block_numbers ≡ (i - content_at) / 2 = omega arith in
        sym (carried-field c cells k i l
        ∙ ap (λ (y : ℕ). number_byte y ((i - content_at) % 2)) (copy.cell x (omega arith) ∙ ap₂ (content_number file) q r)
        ∙ content-byte file small k i h4)

    same-cells : i < check_at → byte file k i ≡ cells_byte (file_count file) cells k i
    same-cells l =
        let c : ℕ = file_count file in
        let end : ℕ = content_at + 2 * carried_numbers c k in
        let b : AcceptedCells c file k = a.blocks k g h in
        split (ltb i end) (λ e. same-carried (ltb-true i end e))
        (λ e. let z : end ≤ i = ltb-false i end e in
        unused-at file k end check_at b.rest i z l ∙ sym (past-field c cells k i z))

  -- block by block, so the file
  same_block : (k i : ℕ) → k ≤ cell_blocks (file_count file) → i < check_at → byte file k i ≡ block_content (read_state file) roots cells k i
  same_block k i h l =
      split (eqb k 0)
      (λ e. rw (eqb-true k 0 e)
      (headed-bytes 4 0 (heading_byte (read_state file) roots) file small a.heading.kind a.heading.number same-heading i l))
      (λ e. let g : 1 ≤ k = omega (arith, eqb-false k 0 e) in
      let b : AcceptedCells (file_count file) file k = a.blocks k g h in
      rw e (headed-bytes 5 k (cells_byte (file_count file) cells k) file small b.kind b.number (same-cells k g h) i l))

  pub written_same : written_bytes (read_state file) roots cells ≡ file
  written_same =
      let s = read_state file in
      written_is s roots cells file a.long
      (λ k i h l. block-sealed (block_content s roots cells k) file k small
      (split (eqb k 0) (λ e. rw (eqb-true k 0 e) a.heading.check)
      (λ e. (a.blocks k (omega (arith, eqb-false k 0 e)) h).check))
      (λ j g. same_block k j h g) i l)
