-- The printing program's whole output, of its input alone (document 01, section 8).
-- Assumes nothing.
use Rattle.std.specs.Prelude.{cond, List, [], ◌++◌, ℕ, length}
use Rattle.table.specs.Answer.{done}
use Rattle.table.specs.Stream.{cared_bits}
use Rattle.table.specs.File.{file_inputs, file_outputs, file_order}
use Rattle.lent.specs.Lent.{numbers_of}
use Rattle.text.specs.Text.{inputs-keyword, outputs-keyword, line, order_line, total_lines, network_lines}
use Rattle.printed.specs.Input.{input_answer}
use Rattle.printed.specs.Built.{refused_line, care_plane, file_network}

-- the bytes that any output fits in
abbrev pub text_size : ℕ
text_size = 65536

-- 'the number of cared bits in the stream'
abbrev pub file_cared : List ℕ → ℕ
file_cared file = cared_bits (file_inputs file) (file_outputs file) (care_plane file [])

-- 'Output, whole': the inputs, the outputs, the order, the cared bits and the cells, then a line a cell and a line a root
unfoldable pub file_text : List ℕ → List ℕ
file_text file =
    line inputs-keyword (file_inputs file) ++ (line outputs-keyword (file_outputs file) ++ (order_line (file_inputs file) (file_order file)
    ++ (total_lines (file_cared file) (length (file_network file).nodes)
    ++ network_lines (length (file_network file).nodes) (file_outputs file) (file_network file).roots (numbers_of (file_network file).nodes))))

-- 'It reads a file, builds in the file's order with 2,159 cells, and prints': no board is too small, so only the input can be refused
unfoldable pub output_of : List ℕ → List ℕ
output_of file = cond (done (input_answer file)) (file_text file) (refused_line (input_answer file))
