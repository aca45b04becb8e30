-- Request 2.2 of document 02, writing a network file: 10, 22, 24, 32; 'bytes past the file stay'.
-- Assumes nothing.
use Rattle.std.specs.Prelude.{cond, ◌&&◌, List, ℕ, suc, ◌+◌, ◌*◌, ◌-◌, ◌/◌, ◌%◌, eqb, ltb, leb, length, get_or}
use Rattle.lists.specs.Written.{over}
use Rattle.diagram.specs.Networks.Bound.{most_nodes}
use Rattle.block.specs.Block.{block_size, content_at}
use Rattle.block.specs.Numbers.{number_byte}
use Rattle.block.specs.Sealed.{headed, sealed}
use Rattle.table.specs.Answer.{Answer}
use Rattle.table.specs.declared.Refusal.TheVariants.{ShortBuffer}
use Rattle.table.specs.declared.State.{State}
use Rattle.table.specs.Answer.{unless, done}
use Rattle.fill.specs.Work.{work_size, zero_work}
use Rattle.lent.specs.Lent.{roots_size}
use Rattle.canonical.specs.Canonical.{canonical_answer}
use Rattle.network_file.specs.File.{count_at, roots_at, block_numbers, cell_blocks, carried_numbers}
use Rattle.network_file.specs.Read.{clears_checked}

-- 'its file buffer under 13,824 bytes': the longest file
unfoldable pub file_size : ℕ
file_size = block_size * suc (cell_blocks most_nodes)

unfoldable pub write_answer : State → List ℕ → List ℕ → List ℕ → List ℕ → Answer
write_answer s roots cells work file =
    unless (leb roots_size (length roots) && (leb work_size (length work) && leb file_size (length file))) ShortBuffer
    (canonical_answer s roots cells)

-- the heading's byte i: n, m, the order, the count, the roots of the outputs; else zero
unfoldable pub heading_byte : State → List ℕ → ℕ → ℕ
heading_byte s roots i =
    cond (eqb i 4) s.n
    (cond (eqb i 5) s.m
    (cond (ltb i count_at) (cond (ltb i (6 + s.n)) (get_or s.order (i - 6) 0) 0)
    (cond (ltb i roots_at) (number_byte s.count (i - count_at))
    (cond (ltb i (roots_at + 2 * s.m)) (number_byte (get_or roots ((i - roots_at) / 2) 0) ((i - roots_at) % 2)) 0))))

-- byte i of block k, which carries cells: the numbers it carries, then zeros
unfoldable pub cells_byte : ℕ → List ℕ → ℕ → ℕ → ℕ
cells_byte count cells k i =
    cond (ltb i (content_at + 2 * carried_numbers count k))
    (number_byte (get_or cells (block_numbers * (k - 1) + (i - content_at) / 2) 0) ((i - content_at) % 2)) 0

-- byte i of block k, before the check
abbrev pub block_content : State → List ℕ → List ℕ → ℕ → ℕ → ℕ
block_content s roots cells k i =
    cond (eqb k 0) (headed 4 0 (heading_byte s roots) i) (headed 5 k (cells_byte s.count cells k) i)

-- byte x of the network file
unfoldable pub file_byte : State → List ℕ → List ℕ → ℕ → ℕ
file_byte s roots cells x = sealed (block_content s roots cells (x / block_size)) (x % block_size)

unfoldable pub written_file : State → List ℕ → List ℕ → List ℕ → List ℕ → List ℕ
written_file s roots cells work file =
    cond (done (write_answer s roots cells work file))
    (over (file_byte s roots cells) (block_size * suc (cell_blocks s.count)) file) file

unfoldable pub write_work : State → List ℕ → List ℕ → List ℕ → List ℕ → List ℕ
write_work s roots cells work file = cond (clears_checked (write_answer s roots cells work file)) (zero_work work) work
