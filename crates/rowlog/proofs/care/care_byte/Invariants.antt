-- `rowlog::care::care_byte` meets its contract. The invariant: the byte has its b lowest bits.
-- Assumes nothing.
use mathlib.Core.Path.{◌≡◌}
use Prim.Native.Nat.{◌+◌, ◌*◌}
use Rattle.lists.specs.Bits.{packed}
use Rattle.rowlog.specs.Inner.Care.{care_bit}
use Rattle.rowlog.proofs.care.care_byte.Given as goal

abbrev pub invariant-loop-b : goal.invariant-loop-b
invariant-loop-b l = l.byte ≡ packed l.b (λ k. care_bit l.counts l.least l.n l.end (8 * l.i + k))
