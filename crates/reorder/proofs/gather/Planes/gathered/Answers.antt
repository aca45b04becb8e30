-- Each turn adds one bit to both bytes. Assumes nothing.
use Rattle.std.proofs.Common.{ℕ, Bool, List, ◌+◌, get_or, arith}
use Rattle.lists.proofs.Bits.Packed.{bit-more}
use Rattle.block.specs.Bits.{stream_bit}
use Rattle.reorder.proofs.gather.Planes.gathered.Goals as goal

pub loop-b-preserved : goal.loop-b-preserved
loop-b-preserved c =
    let a = c.args in
    let l = c.loop-b in
    let f : List ℕ → ℕ → Bool = λ plane b. stream_bit plane (a.base + get_or a.rows.now b 0) in (
      bit-more l.b (f a.self.now.values.now) l.bytes.values l.invariant.0 c.bit-bit.result.values (omega arith) c.bit-bit.ensures.values,
      bit-more l.b (f a.self.now.care.now) l.bytes.care l.invariant.1 c.bit-bit.result.care (omega arith) c.bit-bit.ensures.care,
    )
