-- The invariant: both bytes have their b lowest bits. Assumes nothing.
use Rattle.std.proofs.Common.{◌≡◌, ◌+◌, get_or}
use Rattle.lists.specs.Bits.{packed}
use Rattle.block.specs.Bits.{stream_bit}
use Rattle.reorder.proofs.gather.Planes.gathered.Given as goal

abbrev pub invariant-loop-b : goal.invariant-loop-b
invariant-loop-b l =
    (l.bytes.values ≡ packed l.b (λ b. stream_bit l.self.values.now (l.base + get_or l.rows b 0)))
    × (l.bytes.care ≡ packed l.b (λ b. stream_bit l.self.care.now (l.base + get_or l.rows b 0)))
