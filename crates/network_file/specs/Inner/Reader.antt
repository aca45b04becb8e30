-- The block reader of a network file: what a block answers by its kind.
-- Assumes nothing.
use Rattle.std.specs.Prelude.{cond, ◌&&◌, List, ℕ, ◌+◌, ◌*◌, eqb, Ok}
use Rattle.block.specs.Block.{content_at, byte, good_check, good_number, unused_zero}
use Rattle.table.specs.Answer.{Answer}
use Rattle.table.specs.declared.Refusal.TheVariants.{BadCheck, BadKind, BadContent}
use Rattle.table.specs.Answer.{unless, unless_refused}
use Rattle.table.specs.File.{shape_answer}
use Rattle.network_file.specs.File.{carried_numbers, unused_heading}

-- the heading past its kind and number: 4, 5, 6, 7
unfoldable pub heading_fields : List ℕ → Answer
heading_fields file = unless_refused (shape_answer file) (unused_heading file)

-- a block of cells past its kind and number: 7
unfoldable pub cells_tail : ℕ → List ℕ → ℕ → Answer
cells_tail count file k = unless (unused_zero file k (content_at + 2 * carried_numbers count k)) BadContent (Ok 0)

-- block k read as one of the kind given: 4 is block 0's, 5 any other's
unfoldable pub kind_answer : ℕ → ℕ → List ℕ → ℕ → Answer
kind_answer kind count file k =
    unless (eqb kind (cond (eqb k 0) 4 5) && good_number file k) BadKind (cond (eqb k 0) (heading_fields file) (cells_tail count file k))

-- the check first
unfoldable pub read_block : ℕ → List ℕ → ℕ → Answer
read_block count file k = unless (good_check file k) BadCheck (kind_answer (byte file k 0) count file k)
