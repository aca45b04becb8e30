-- Section 1 of document 01, the table file, and section 6's sequence of refusals for it.
-- Assumes nothing.
use Rattle.std.specs.Prelude.{Bool, cond, ◌&&◌, List, map, ℕ, ◌+◌, ◌*◌, ◌-◌, ◌/◌, ◌%◌, ◌^◌, eqb, ltb, leb, length, Ok}
use Rattle.lists.specs.Lists.{up_to}
use Rattle.diagram.specs.Networks.Bound.{most_variables, most_outputs}
use Rattle.diagram.specs.Orders.Order.{is_order}
use Rattle.block.specs.Block.{block_size, content_at, content_size, content_bits, whole_blocks, byte, good_check, good_number}
use Rattle.block.specs.Block.{unused_zero, unused_bits_zero}
use Rattle.table.specs.Answer.{Answer}
use Rattle.table.specs.declared.Refusal.TheVariants.{BadLength, BadCheck, BadKind}
use Rattle.table.specs.declared.Refusal.TheVariants.{BadInputs, BadOutputs, BadOrder, BadContent}
use Rattle.table.specs.Answer.{unless, unless_refused, first_refusal}

-- the kind of block k, where a stream takes `blocks` blocks: 1 heading, then 2 values, then 3 care
unfoldable pub kind_of : ℕ → ℕ → ℕ
kind_of blocks k = cond (eqb k 0) 1 (cond (leb k blocks) 2 3)

-- 'byte 0, the kind', then byte 1 and the block number
unfoldable pub good_kind : ℕ → List ℕ → ℕ → Bool
good_kind blocks file k = eqb (byte file k 0) (kind_of blocks k) && good_number file k

-- the heading: n, m and the order
abbrev pub file_inputs : List ℕ → ℕ
file_inputs file = byte file 0 4

abbrev pub file_outputs : List ℕ → ℕ
file_outputs file = byte file 0 5

abbrev pub file_order : List ℕ → List ℕ
file_order file = map (λ p. byte file 0 (6 + p)) (up_to (file_inputs file))

-- of the heading, whatever the kind of file: '4, 5, 6', its n, m and order
unfoldable pub shape_answer : List ℕ → Answer
shape_answer file =
    unless (leb (file_inputs file) most_variables) BadInputs
    (unless (leb 1 (file_outputs file) && leb (file_outputs file) most_outputs) BadOutputs
    (unless (is_order (file_inputs file) (file_order file)) BadOrder (Ok 0)))

-- of a table's heading: '4, 5, 6, 7'. 'All other content is zero': past the order
unfoldable pub fields_answer : List ℕ → Answer
fields_answer file =
    unless_refused (shape_answer file) (unless (unused_zero file 0 (6 + file_inputs file)) BadContent (Ok 0))

-- 'for block 0: 2, 3, 4, 5, 6, 7'
unfoldable pub heading_answer : List ℕ → Answer
heading_answer file = unless (good_check file 0) BadCheck (unless (good_kind 0 file 0) BadKind (fields_answer file))

-- the bits of a stream, and its blocks: 'A block carries 4,048 of them'
abbrev pub stream_bits : ℕ → ℕ → ℕ
stream_bits n m = m * 2 ^ n

unfoldable pub stream_blocks : ℕ → ℕ → ℕ
stream_blocks n m = (stream_bits n m + (content_bits - 1)) / content_bits

-- the first bit of the stream in block k
abbrev pub first_bit : ℕ → ℕ → ℕ
first_bit blocks k = content_bits * cond (leb k blocks) (k - 1) (k - 1 - blocks)

-- of a further block: '7', every bit past the stream's last is zero
unfoldable pub tail_answer : ℕ → ℕ → List ℕ → ℕ → Answer
tail_answer bits blocks file k = unless (unused_bits_zero file k (bits - first_bit blocks k)) BadContent (Ok 0)

-- 'each further block: 2, 3, 7'
unfoldable pub block_answer : ℕ → ℕ → List ℕ → ℕ → Answer
block_answer bits blocks file k =
    unless (good_check file k) BadCheck (unless (good_kind blocks file k) BadKind (tail_answer bits blocks file k))

-- 'then each further block' in turn, from block k on: the first refusal
abbrev pub blocks_answer : ℕ → ℕ → List ℕ → ℕ → ℕ → Answer
blocks_answer bits blocks file k left = first_refusal (block_answer bits blocks file) k left

-- 'then 1 for the block count; then each further block'
unfoldable pub streams_answer : List ℕ → ℕ → ℕ → Answer
streams_answer file n m =
    unless (eqb (length file) (block_size * (1 + 2 * stream_blocks n m))) BadLength
    (blocks_answer (stream_bits n m) (stream_blocks n m) file 1 (2 * stream_blocks n m))

-- '1 for empty or broken blocks, then for block 0: 2, 3, 4, 5, 6, 7; then 1 for the block count; then each further block'
unfoldable pub file_answer : List ℕ → Answer
file_answer file =
    unless (whole_blocks file) BadLength
    (unless_refused (heading_answer file) (streams_answer file (file_inputs file) (file_outputs file)))

-- byte i of the stream that block `first` begins: a block carries 506 bytes of it; past its blocks there is none
unfoldable pub stream_byte : List ℕ → ℕ → ℕ → ℕ → ℕ
stream_byte file first blocks i =
    cond (ltb i (content_size * blocks)) (byte file (first + i / content_size) (content_at + i % content_size)) 0
