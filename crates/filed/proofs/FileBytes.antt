-- The bytes of a network file are of the network alone: of no root past the outputs, and no number past the cells'.
-- Assumes nothing.
use mathlib.Core.Path.{◌≡◌, refl, ap, ap₂}
use mathlib.Core.Bool.{cond}
use mathlib.Core.List.{List, ◌++◌, map}
use Prim.Native.Nat.{ℕ, ◌+◌, ◌*◌, ◌-◌, ◌/◌, ◌%◌, ◌≤◌, ◌<◌}
use native.Mathlib.Omega.{arith}
use borrow.Author.Tests.{ltb-true, ltb-false}
use lib.Dec.{eqb, ltb}
use lib.ListN.{length, get_or, get_or-append}
use Rattle.lists.specs.Lists.{up_to}
use Rattle.lists.proofs.Bools.{split}
use Rattle.lists.proofs.Numbers.UpTo.{length-map-up_to}
use Rattle.diagram.specs.Networks.Bound.{most_nodes}
use Rattle.block.specs.Block.{block_size, content_at}
use Rattle.block.specs.Numbers.{number_byte}
use Rattle.block.specs.Sealed.{headed, sealed}
use Rattle.table.specs.declared.State.{State}
use Rattle.network_file.specs.File.{count_at, roots_at, block_numbers, carried_numbers, cell_blocks}
use Rattle.network_file.specs.Write.{file_size, heading_byte, cells_byte, block_content, file_byte}
use Rattle.filed.specs.NetworkFile.{network_file_size, network_file_bytes}

-- a block has its content from byte 4 on
headed-same : (kind k : ℕ) (f g : ℕ → ℕ) → ((i : ℕ) → content_at ≤ i → f i ≡ g i) → (i : ℕ) → headed kind k f i ≡ headed kind k g i
unfolding headed
headed-same kind k f g same i =
    ap (λ x. cond (eqb i 0) kind (cond (eqb i 1) 0 x))
    (split (ltb i content_at) (λ e. rw e refl) (λ e. rw e (same i (ltb-false i content_at e))))

module _ (s : State) (roots roots' cells rest : List ℕ) (listed : (j : ℕ) → j < s.m → get_or roots j 0 ≡ get_or roots' j 0)
    (long : length cells ≡ 3 * s.count) where
  roots-same : (i : ℕ) → roots_at ≤ i
      → cond (ltb i (roots_at + 2 * s.m)) (number_byte (get_or roots ((i - roots_at) / 2) 0) ((i - roots_at) % 2)) 0
      ≡ cond (ltb i (roots_at + 2 * s.m)) (number_byte (get_or roots' ((i - roots_at) / 2) 0) ((i - roots_at) % 2)) 0
  roots-same i h =
      split (ltb i (roots_at + 2 * s.m))
      (λ e. let l = ltb-true i (roots_at + 2 * s.m) e in
      rw e (ap (λ x. number_byte x ((i - roots_at) % 2)) (listed ((i - roots_at) / 2) (omega arith)))) (λ e. rw e refl)

  heading-same : (i : ℕ) → heading_byte s roots i ≡ heading_byte s roots' i
  unfolding heading_byte
  heading-same i =
      ap
      (λ x. cond (eqb i 4) s.n
      (cond (eqb i 5) s.m (cond (ltb i count_at) (cond (ltb i (6 + s.n)) (get_or s.order (i - 6) 0) 0) x)))
      (split (ltb i roots_at) (λ e. rw e refl) (λ e. rw e (roots-same i (ltb-false i roots_at e))))

  cells_same : (k i : ℕ) → content_at ≤ i → cells_byte s.count (cells ++ rest) k i ≡ cells_byte s.count cells k i
  unfolding cells_byte
  cells_same k i h =
      split (ltb i (content_at + 2 * carried_numbers s.count k))
      (λ e. let l = ltb-true i (content_at + 2 * carried_numbers s.count k) e in
      let x = block_numbers * (k - 1) + (i - content_at) / 2 in
      rw e (ap (λ y. number_byte y ((i - content_at) % 2)) (get_or-append cells rest 0 x (omega arith)))) (λ e. rw e refl)

  content-same : (k i : ℕ) → block_content s roots (cells ++ rest) k i ≡ block_content s roots' cells k i
  content-same k i =
      ap₂ (λ x y. cond (eqb k 0) x y) (headed-same 4 0 (heading_byte s roots) (heading_byte s roots') (λ j h. heading-same j) i)
      (headed-same 5 k (cells_byte s.count (cells ++ rest) k) (cells_byte s.count cells k) (cells_same k) i)

  byte-same : (x : ℕ) → file_byte s roots (cells ++ rest) x ≡ file_byte s roots' cells x
  unfolding file_byte
  byte-same x = ap (λ (f : ℕ → ℕ). sealed f (x % block_size)) (λ t i. content-same (x / block_size) i t)

  pub file-same : network_file_bytes s roots (cells ++ rest) ≡ network_file_bytes s roots' cells
  unfolding network_file_bytes
  file-same = ap (λ (f : ℕ → ℕ). map f (up_to (network_file_size s.count))) (λ t x. byte-same x t)

-- its length, which the longest file's bytes are enough for

pub file-length : (s : State) (roots cells : List ℕ) → length (network_file_bytes s roots cells) ≡ network_file_size s.count
unfolding network_file_bytes
file-length s roots cells = length-map-up_to (file_byte s roots cells) (network_file_size s.count)

pub file-room : (count : ℕ) → count ≤ most_nodes → network_file_size count ≤ file_size
unfolding file_size cell_blocks
file-room count h = omega arith
