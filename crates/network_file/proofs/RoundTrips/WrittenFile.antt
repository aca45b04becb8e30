-- The bytes of a written network file, block by block, and the fields that are read from them again.
-- Assumes nothing.
use mathlib.Core.Path.{◌≡◌, sym, ap, ap₂, ◌∙◌}
use mathlib.Core.Bool.{true}
use mathlib.Core.List.{List, map}
use Prim.Native.Nat.{ℕ, suc, ◌+◌, ◌*◌, ◌-◌, ◌/◌, ◌%◌, ◌≤◌, ◌<◌}
use native.Mathlib.Omega.{arith}
use borrow.Author.Tests.{ne_eqb}
use lib.ListN.{length, get_or, take, drop}
use lib.Seq.{take_at, ext_get_or, get_or-take, length-take-le}
use Rattle.lists.specs.Lists.{up_to}
use Rattle.lists.specs.Written.{over}
use Rattle.lists.proofs.Numbers.UpTo.{length-map-up_to, get_or-map-up_to}
use Rattle.diagram.specs.Networks.Bound.{most_variables, most_outputs}
use Rattle.block.specs.Block.{block_size, content_at, check_at, byte}
use Rattle.block.specs.Numbers.{number_byte}
use Rattle.block.specs.Sealed.{headed, sealed}
use Rattle.table.specs.declared.State.{State}
use Rattle.table.specs.Answer.{done}
use Rattle.table.specs.State.{order_of}
use Rattle.table.specs.File.{file_inputs, file_outputs, file_order}
use Rattle.network_file.specs.File.{roots_at, block_numbers, file_count, file_root, cell_number, cell_blocks}
use Rattle.network_file.specs.Write.{heading_byte, cells_byte, block_content, file_byte, write_answer, written_file}
use Rattle.network_file.proofs.Format.SealedBlock.{number-joined, headed-content, sealed-before}
use Rattle.network_file.proofs.Writing.WrittenBlocks.{block-byte}
use Rattle.network_file.proofs.Writing.WrittenFields.{inputs-field, outputs-field, order-field, count-field, root-field, rest-field}
use Rattle.network_file.proofs.Writing.WrittenFields.{carried-field}

-- the bytes of the file of a state, roots and cells
abbrev pub written_size : State → ℕ
written_size s = block_size * suc (cell_blocks s.count)

unfoldable pub written_bytes : State → List ℕ → List ℕ → List ℕ
written_bytes s roots cells = map (file_byte s roots cells) (up_to (written_size s))

-- a list by what it has at each index
listed : {A : Type 0} (d : A) (f : ℕ → A) (n : ℕ) (l : List A) → length l ≡ n → ((i : ℕ) → i < n → f i ≡ get_or l i d)
    → map f (up_to n) ≡ l
listed d f n l e g =
    let q : length (map f (up_to n)) ≡ n = length-map-up_to f n in
    ext_get_or d (map f (up_to n)) l (q ∙ sym e)
    (λ i h. let k : i < n = omega arith in get_or-map-up_to f n i d k ∙ g i k)

module _ (s : State) (roots cells : List ℕ) where
  pub written-length : length (written_bytes s roots cells) ≡ written_size s
  unfolding written_bytes
  written-length = length-map-up_to (file_byte s roots cells) (written_size s)

  -- they are the first bytes of a buffer that is written over
  written-first : (file : List ℕ)
      → take (written_size s) (over (file_byte s roots cells) (written_size s) file) ≡ written_bytes s roots cells
  unfolding written_bytes
  written-first file =
      take_at (map (file_byte s roots cells) (up_to (written_size s))) (drop (written_size s) file) (written_size s)
      (length-map-up_to (file_byte s roots cells) (written_size s))

  -- block by block
  pub written_byte : (k i : ℕ) → k ≤ cell_blocks s.count → i < block_size
      → byte (written_bytes s roots cells) k i ≡ sealed (block_content s roots cells k) i
  unfolding written_bytes
  written_byte k i h l =
      get_or-map-up_to (file_byte s roots cells) (written_size s) (block_size * k + i) 0 (omega arith) ∙ block-byte s roots cells k i l

  -- a list that has those bytes, block by block, is the file
  pub written_is : (file : List ℕ) → length file ≡ written_size s
      → ((k i : ℕ) → k ≤ cell_blocks s.count → i < block_size → byte file k i ≡ sealed (block_content s roots cells k) i)
      → written_bytes s roots cells ≡ file
  unfolding written_bytes file_byte
  written_is file e f =
      listed 0 (file_byte s roots cells) (written_size s) file e
      (λ x h. let d : block_size * (x / block_size) + x % block_size ≡ x = omega arith in
      sym (f (x / block_size) (x % block_size) (omega arith) (omega arith)) ∙ ap (λ (y : ℕ). get_or file y 0) d)

  -- the heading, and a block that carries cells, before the check
  pub heading-byte : (i : ℕ) → i < check_at → byte (written_bytes s roots cells) 0 i ≡ headed 4 0 (heading_byte s roots) i
  heading-byte i l = written_byte 0 i (omega arith) (omega arith) ∙ sealed-before (block_content s roots cells 0) i l

  pub cells-byte : (k i : ℕ) → 1 ≤ k → k ≤ cell_blocks s.count → i < check_at
      → byte (written_bytes s roots cells) k i ≡ headed 5 k (cells_byte s.count cells k) i
  cells-byte k i g h l =
      written_byte k i h (omega arith) ∙ sealed-before (block_content s roots cells k) i l
      ∙ rw (ne_eqb k 0 (λ e. omega arith))

  pub heading-content : (i : ℕ) → content_at ≤ i → i < check_at → byte (written_bytes s roots cells) 0 i ≡ heading_byte s roots i
  heading-content i h l = heading-byte i l ∙ headed-content 4 0 (heading_byte s roots) i h

  pub cells-content : (k i : ℕ) → 1 ≤ k → k ≤ cell_blocks s.count → content_at ≤ i → i < check_at
      → byte (written_bytes s roots cells) k i ≡ cells_byte s.count cells k i
  cells-content k i g h d l = cells-byte k i g h l ∙ headed-content 5 k (cells_byte s.count cells k) i d

  -- what is read from it
  pub written-inputs : file_inputs (written_bytes s roots cells) ≡ s.n
  written-inputs = heading-content 4 (omega arith) (omega arith) ∙ inputs-field s roots

  pub written-outputs : file_outputs (written_bytes s roots cells) ≡ s.m
  written-outputs = heading-content 5 (omega arith) (omega arith) ∙ outputs-field s roots

  pub written_count : file_count (written_bytes s roots cells) ≡ s.count
  written_count =
      ap₂ (λ (x y : ℕ). x + 256 * y) (heading-content 16 (omega arith) (omega arith) ∙ count-field s roots 16 (omega arith) (omega arith))
      (heading-content 17 (omega arith) (omega arith) ∙ count-field s roots 17 (omega arith) (omega arith))
      ∙ number-joined s.count

  pub written-order : s.n ≤ most_variables → s.n ≤ length s.order → file_order (written_bytes s roots cells) ≡ order_of s
  written-order h l =
      let F : List ℕ = written_bytes s roots cells in
      ap (λ (n : ℕ). map (λ p. byte F 0 (6 + p)) (up_to n)) written-inputs
      ∙ listed 0 (λ p. byte F 0 (6 + p)) s.n (order_of s) (length-take-le s.n s.order l)
      (λ p g. let d : 6 + p - 6 ≡ p = omega arith in
      heading-content (6 + p) (omega arith) (omega arith) ∙ order-field s roots (6 + p) (omega arith) (omega arith) h
      ∙ ap (λ (x : ℕ). get_or s.order x 0) d ∙ sym (get_or-take s.n s.order p 0 g))

  module _ (few : s.m ≤ most_outputs) where
    root-byte : (j b : ℕ) → j < s.m → b < 2
        → byte (written_bytes s roots cells) 0 (content_at + 2 * (7 + j) + b) ≡ number_byte (get_or roots j 0) b
    root-byte j b h l =
        let i : ℕ = content_at + 2 * (7 + j) + b in
        let q : (content_at + 2 * (7 + j) + b - roots_at) / 2 ≡ j = omega arith in
        let r : (content_at + 2 * (7 + j) + b - roots_at) % 2 ≡ b = omega arith in
        heading-content i (omega arith) (omega arith) ∙ root-field s roots i (omega arith) (omega arith)
        ∙ ap₂ (λ (x y : ℕ). number_byte (get_or roots x 0) y) q r

    pub written-root : (j : ℕ) → j < s.m → file_root (written_bytes s roots cells) j ≡ get_or roots j 0
    written-root j h =
        let d : content_at + 2 * (7 + j) ≡ content_at + 2 * (7 + j) + 0 = omega arith in
        ap₂ (λ (x y : ℕ). x + 256 * y) (ap (byte (written_bytes s roots cells) 0) d ∙ root-byte j 0 h (omega arith))
        (root-byte j 1 h (omega arith))
        ∙ number-joined (get_or roots j 0)

    pub written-no-root : (j : ℕ) → s.m ≤ j → j < most_outputs → file_root (written_bytes s roots cells) j ≡ 0
    written-no-root j h l =
        let i : ℕ = content_at + 2 * (7 + j) in
        ap₂ (λ (x y : ℕ). x + 256 * y) (heading-content i (omega arith) (omega arith) ∙ rest-field s roots i (omega arith))
        (heading-content (i + 1) (omega arith) (omega arith) ∙ rest-field s roots (i + 1) (omega arith))

  cell-byte : (x b : ℕ) → x < 3 * s.count → b < 2
      → byte (written_bytes s roots cells) (suc (x / block_numbers)) (content_at + 2 * (x % block_numbers) + b) ≡ number_byte (get_or cells x 0) b
  unfolding cell_blocks
  cell-byte x b h l =
      let k : ℕ = suc (x / block_numbers) in
      let i : ℕ = content_at + 2 * (x % block_numbers) + b in
      let q : block_numbers * (suc (x / block_numbers) - 1) + (content_at + 2 * (x % block_numbers) + b - content_at) / 2 ≡ x = omega arith in
      let r : (content_at + 2 * (x % block_numbers) + b - content_at) % 2 ≡ b = omega arith in
      cells-content k i (omega arith) (omega arith) (omega arith) (omega arith)
      ∙ carried-field s.count cells k i (omega arith)
      ∙ ap₂ (λ (y z : ℕ). number_byte (get_or cells y 0) z) q r

  pub written-cell : (x : ℕ) → x < 3 * s.count → cell_number (written_bytes s roots cells) x ≡ get_or cells x 0
  written-cell x h =
      let d : content_at + 2 * (x % block_numbers) ≡ content_at + 2 * (x % block_numbers) + 0 = omega arith in
      ap₂ (λ (y z : ℕ). y + 256 * z)
      (ap (byte (written_bytes s roots cells) (suc (x / block_numbers))) d ∙ cell-byte x 0 h (omega arith)) (cell-byte x 1 h (omega arith))
      ∙ number-joined (get_or cells x 0)

-- the first bytes of the buffer are the file
pub the-file : (s : State) (roots cells work file : List ℕ) → done (write_answer s roots cells work file) ≡ true
    → take (written_size s) (written_file s roots cells work file) ≡ written_bytes s roots cells
unfolding written_file
the-file s roots cells work file e = rw e (written-first s roots cells file)
