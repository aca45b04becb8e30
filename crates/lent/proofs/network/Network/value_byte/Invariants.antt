-- `lent::network::Network::value_byte` meets its contract. The invariant: the byte has its b lowest bits.
-- Assumes nothing.
use mathlib.Core.Path.{◌≡◌}
use Prim.Native.Nat.{◌+◌, ◌*◌}
use Rattle.lists.specs.Bits.{packed}
use Rattle.lent.specs.Tabulate.{lent_table}
use Rattle.lent.specs.Inner.Tabulate.{table_bit}
use Rattle.lent.proofs.network.Network.value_byte.Given as goal

abbrev pub invariant-loop-b : goal.invariant-loop-b
invariant-loop-b l =
    l.byte ≡ packed l.b (λ k. table_bit (λ v. v.value) (lent_table l.self.state l.self.roots.now l.self.cells.now) (8 * l.i + k))
