-- The network file that is written of a program's input, of the input alone (document 02, 2.2).
-- Assumes nothing.
use Rattle.std.specs.Prelude.{cond, List, map, ℕ, suc, ◌*◌}
use Rattle.lists.specs.Lists.{up_to}
use Rattle.block.specs.Block.{block_size}
use Rattle.table.specs.declared.State.{State}
use Rattle.table.specs.Answer.{done}
use Rattle.lent.specs.Lent.{numbers_of}
use Rattle.network_file.specs.File.{cell_blocks}
use Rattle.network_file.specs.Write.{file_byte}
use Rattle.printed.specs.Input.{input_answer}
use Rattle.printed.specs.Built.{refused_line, file_network, network_held}

-- the bytes of a heading and of the blocks that so many cells take
abbrev pub network_file_size : ℕ → ℕ
network_file_size count = block_size * suc (cell_blocks count)

-- the whole file of a held network, from its roots and the numbers of its cells
unfoldable pub network_file_bytes : State → List ℕ → List ℕ → List ℕ
network_file_bytes s roots cells = map (file_byte s roots cells) (up_to (network_file_size s.count))

-- of the network of an accepted file's table
unfoldable pub network_file_of : List ℕ → List ℕ
network_file_of file = network_file_bytes (network_held file) (file_network file).roots (numbers_of (file_network file).nodes)

-- the output: what a build leaves is never refused by the writer, so only the input can be
unfoldable pub network_output_of : List ℕ → List ℕ
network_output_of file = cond (done (input_answer file)) (network_file_of file) (refused_line (input_answer file))
