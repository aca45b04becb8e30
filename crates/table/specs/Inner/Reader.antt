-- The block reader: what a block answers by its kind.
-- Assumes nothing.
use Rattle.std.specs.Prelude.{cond, ◌&&◌, List, ℕ, ◌+◌, ◌*◌, ◌-◌, eqb, leb, ltb, Ok}
use Rattle.block.specs.Block.{content_bits, byte, good_check, good_number, unused_bits_zero}
use Rattle.table.specs.Answer.{Answer}
use Rattle.table.specs.declared.Refusal.TheVariants.{BadCheck, BadKind, BadContent}
use Rattle.table.specs.Answer.{unless}
use Rattle.table.specs.File.{kind_of, fields_answer, tail_answer}

-- a block of a stream with so many of its bits left: byte 1 and the number (3), then 7
unfoldable pub carried_answer : List ℕ → ℕ → ℕ → Answer
carried_answer file k left = unless (good_number file k) BadKind (unless (unused_bits_zero file k left) BadContent (Ok 0))

-- a block of a stream of `bits` bits, which stands at the `blocks` blocks behind block `before` only
unfoldable pub stream_answer : ℕ → ℕ → ℕ → List ℕ → ℕ → Answer
stream_answer bits blocks before file k =
    unless (ltb before k && leb k (before + blocks)) BadKind (carried_answer file k (bits - content_bits * (k - 1 - before)))

-- block k read as one of the kind given: that kind must be its own there
unfoldable pub kind_answer : ℕ → ℕ → ℕ → List ℕ → ℕ → Answer
kind_answer kind bits blocks file k =
    unless (eqb kind (kind_of blocks k) && good_number file k) BadKind (cond (eqb k 0) (fields_answer file) (tail_answer bits blocks file k))

-- the heading at block 0, a block of a stream at any other
unfoldable pub read_block_answer : ℕ → ℕ → List ℕ → ℕ → Answer
read_block_answer bits blocks file k = unless (good_check file k) BadCheck (kind_answer (byte file k 0) bits blocks file k)
