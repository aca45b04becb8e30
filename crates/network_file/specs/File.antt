-- Request 2.2 of document 02, the network file: 'Kind 4 is the heading: n, m and order as in a table heading, bytes 16–17 the count, bytes
-- 18–49 the sixteen roots. Kind 5 blocks carry 84 cells of three 16-bit numbers each.' And its refusals: 1 to 7, in sequence.
-- Assumes nothing.
use Rattle.std.specs.Prelude.{◌&&◌, List, ℕ, suc, ◌+◌, ◌*◌, ◌-◌, ◌/◌, ◌%◌, min, eqb, length, Ok}
use Rattle.diagram.specs.Networks.Diagram.{Node, Diagram}
use Rattle.block.specs.Block.{block_size, content_at, whole_blocks, byte, good_check, good_number, unused_zero, unused_between}
use Rattle.table.specs.Answer.{Answer}
use Rattle.table.specs.declared.Refusal.TheVariants.{BadLength, BadCheck, BadKind, BadContent}
use Rattle.table.specs.Answer.{unless, unless_refused, first_refusal}
use Rattle.table.specs.File.{file_inputs, file_outputs, shape_answer}
use Rattle.lent.specs.Lent.{node_by, diagram_by}

-- the cells of a block, and its numbers
abbrev pub block_cells : ℕ
block_cells = 84

abbrev pub block_numbers : ℕ
block_numbers = 3 * block_cells

-- number j of block k's content, two bytes, low byte first
abbrev pub content_number : List ℕ → ℕ → ℕ → ℕ
content_number file k j = byte file k (content_at + 2 * j) + 256 * byte file k (content_at + 2 * j + 1)

-- bytes 16 and 17, and the roots from byte 18 on: content numbers 6, and from 7 on
abbrev pub count_at : ℕ
count_at = 16

abbrev pub roots_at : ℕ
roots_at = 18

abbrev pub file_count : List ℕ → ℕ
file_count file = content_number file 0 ((count_at - content_at) / 2)

abbrev pub file_root : List ℕ → ℕ → ℕ
file_root file j = content_number file 0 ((roots_at - content_at) / 2 + j)

-- number x of the cells, three a cell, from block 1 on
abbrev pub cell_number : List ℕ → ℕ → ℕ
cell_number file x = content_number file (suc (x / block_numbers)) (x % block_numbers)

abbrev pub file_node : List ℕ → ℕ → Node
file_node file i = node_by (cell_number file) i

-- the counted cells and the first m roots
unfoldable pub file_diagram : List ℕ → Diagram
file_diagram file = diagram_by (file_count file) (file_outputs file) (cell_number file) (file_root file)

-- the blocks that so many cells take
unfoldable pub cell_blocks : ℕ → ℕ
cell_blocks count = (count + (block_cells - 1)) / block_cells

-- of the heading, 7: past the order to the count, and past the roots of the outputs, 'unused roots are zero'
unfoldable pub unused_heading : List ℕ → Answer
unused_heading file =
    unless (unused_between file 0 (6 + file_inputs file) count_at && unused_zero file 0 (roots_at + 2 * file_outputs file)) BadContent (Ok 0)

-- 'for block 0: 2, 3, 4, 5, 6, 7'
unfoldable pub network_heading : List ℕ → Answer
network_heading file =
    unless (good_check file 0) BadCheck
    (unless (eqb (byte file 0 0) 4 && good_number file 0) BadKind (unless_refused (shape_answer file) (unused_heading file)))

-- the numbers that block k carries, of `count` cells
abbrev pub carried_numbers : ℕ → ℕ → ℕ
carried_numbers count k = min block_numbers (3 * count - block_numbers * (k - 1))

-- 'each further block: 2, 3, 7'
unfoldable pub cells_block : ℕ → List ℕ → ℕ → Answer
cells_block count file k =
    unless (good_check file k) BadCheck
    (unless (eqb (byte file k 0) 5 && good_number file k) BadKind
    (unless (unused_zero file k (content_at + 2 * carried_numbers count k)) BadContent (Ok 0)))

-- 'with the block total for the count under 1', then each further block
unfoldable pub cells_answer : List ℕ → ℕ → Answer
cells_answer file count =
    unless (eqb (length file) (block_size * suc (cell_blocks count))) BadLength
    (first_refusal (cells_block count file) 1 (cell_blocks count))

-- 'The reader checks as load does'
unfoldable pub network_file_answer : List ℕ → Answer
network_file_answer file =
    unless (whole_blocks file) BadLength (unless_refused (network_heading file) (cells_answer file (file_count file)))
