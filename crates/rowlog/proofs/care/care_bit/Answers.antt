-- `rowlog::care::care_bit` meets its contract: past the stream nothing, else by the count of the row.
-- Assumes nothing.
use native.Mathlib.Omega.{arith}
use lib.Pow.{pow_pos}
use Rattle.lists.proofs.Bits.Digits.{one_shifted}
use Rattle.lists.proofs.Bits.Masks.{row-masked}
use Rattle.rowlog.proofs.Caring.{bit-within}
use Rattle.rowlog.proofs.care.care_bit.Goals as goal

pub overflow_sub-row : goal.overflow_sub-row
overflow_sub-row c =
    omega (arith, one_shifted c.args.n (omega (arith, c.requires)), pow_pos c.args.n)

pub returns : goal.returns
returns c =
    let a = c.args in
    bit-within a.counts.now a.least a.n a.end a.x _ c.lent_count.result c.if-end-x.false
    (row-masked a.n a.x (omega (arith, c.requires))) c.lent_count.ensures.0
