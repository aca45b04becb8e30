-- The block reader of a network file: what a block answers by the arms of the match on its kind, and the block total.
-- Assumes nothing.
use Rattle.std.specs.Prelude.{Err}
use mathlib.Core.Path.{◌≡◌, refl, ap, ◌∙◌}
use mathlib.Core.List.{List}
use Prim.Native.Nat.{ℕ, suc, ◌+◌, ◌*◌}
use native.Mathlib.Omega.{arith}
use borrow.Author.Tests.{eq-eqb, ne_eqb}
use lib.ListN.{length}
use Rattle.block.specs.Block.{block_size}
use Rattle.table.specs.Answer.{Answer}
use Rattle.table.specs.declared.Refusal.TheVariants.{BadLength}
use Rattle.table.specs.Answer.{first_refusal}
use Rattle.network_file.specs.File.{cell_blocks, network_heading, cells_block, cells_answer}
use Rattle.network_file.specs.Inner.Reader.{heading_fields, cells_tail, kind_answer, read_block}

module _ (count : ℕ) (file : List ℕ) (k : ℕ) where
  -- a block that is not the heading reads as cells
  pub read-further : (k ≡ 0 → ⊥) → read_block count file k ≡ cells_block count file k
  unfolding read_block kind_answer cells_tail cells_block
  read-further n = rw (ne_eqb k 0 n)

-- and block 0 as the heading
pub read-heading : (count : ℕ) (file : List ℕ) → read_block count file 0 ≡ network_heading file
unfolding read_block kind_answer heading_fields network_heading
read-heading count file = refl

-- the block total, then the blocks
module _ (file : List ℕ) (count r : ℕ) (e : r ≡ cell_blocks count) where
  pub wrong-total : (length file ≡ block_size * (1 + r) → ⊥) → Err BadLength ≡ cells_answer file count
  unfolding cells_answer
  wrong-total d =
      rw (ne_eqb (length file) (block_size * suc (cell_blocks count)) (λ q. d (omega (arith, q))))

  pub right-total : (a : Answer) → length file ≡ block_size * (1 + r) → a ≡ first_refusal (cells_block count file) 1 r
      → a ≡ cells_answer file count
  unfolding cells_answer
  right-total a d q =
      rw (eq-eqb (length file) (block_size * suc (cell_blocks count)) (omega (arith, d)))
      (q ∙ ap (first_refusal (cells_block count file) 1) e)
