-- `matching::exchange::exchange_parts` meets its contract. The loop's invariant: the first i planes are exchanged. The measure is how many are
-- left. Assumes nothing.
use mathlib.Core.Path.{◌≡◌}
use Prim.Native.Nat.{◌≤◌}
use lib.ListN.{length}
use Rattle.matching.proofs.Buffers.ExchangedPlanes.{exchanged_to}
use Rattle.matching.proofs.exchange.exchange_parts.Given as goal

abbrev pub invariant-loop-i : goal.invariant-loop-i
invariant-loop-i l = (l.i ≤ l.planes) × (l.work ≡ exchanged_to l.d l.from l.initial.work l.i) × (length l.work ≡ length l.initial.work)
