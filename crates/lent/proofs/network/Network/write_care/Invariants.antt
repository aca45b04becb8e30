-- `lent::network::Network::write_care` meets its contract. The loop's invariant: the bytes are written over as far as byte i.
-- Assumes nothing.
use mathlib.Core.Path.{◌≡◌}
use Rattle.lists.specs.Written.{over}
use Rattle.table.specs.Stream.{plane_byte}
use Rattle.lent.specs.Tabulate.{lent_table}
use Rattle.lent.proofs.network.Network.write_care.Given as goal

abbrev pub invariant-loop-i : goal.invariant-loop-i
invariant-loop-i l =
    l.byte-items ≡ over (plane_byte (λ x. x.care) (lent_table l.self.state l.self.roots.now l.self.cells.now)) l.i l.initial.byte-items
