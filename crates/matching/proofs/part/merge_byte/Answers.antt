-- Merged bytes are a byte. Assumes nothing.
use Rattle.std.proofs.Common.{arith}
use Rattle.matching.proofs.Wordwise.PartWords.{merge-lt}
use Rattle.matching.proofs.part.merge_byte.Goals as goal

pub overflow_cast-result : goal.overflow_cast-result
overflow_cast-result c =
    let a = c.args in
    let lt = merge-lt 8 a.f a.c a.g a.i (omega arith) (omega arith) (omega arith) in
    rw (c.merge_word.ensures, c.into.ensures, c.into-2.ensures, c.into-3.ensures) (omega (arith, lt))
