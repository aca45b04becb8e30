-- `network_file::verify::few_answer` meets its contract: the numbers copied to have room for the copy.
-- Assumes nothing.
use native.Mathlib.Omega.{arith}
use Rattle.lent.proofs.Sizes.{roots-size}
use Rattle.network_file.proofs.verify.few_answer.Goals as goal

pub copy_answer-requires : goal.copy_answer-requires
copy_answer-requires c =
    record {
      file_value = c.requires.file_value;
      roots_size_in_bounds = (omega (arith, roots-size), omega (arith, c.requires.file_bound));
    }
