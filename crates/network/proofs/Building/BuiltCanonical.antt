-- What a build leaves is section 4's network of what it computes.
-- Assumes nothing.
use mathlib.Core.Path.{◌≡◌, ap, ◌∙◌}
use mathlib.Core.Bool.{true, not}
use mathlib.Core.List.{List}
use Prim.Native.Nat.{ℕ}
use lib.Dec.{T}
use Rattle.diagram.specs.Table.{filled, network_of}
use Rattle.diagram.specs.Canonical.Computed.{canonical}
use Rattle.diagram.proofs.Demands.{filled-length}
use Rattle.diagram.proofs.Canonical.NetworkIff.{network-canonical}
use Rattle.table.specs.declared.State.{State}
use Rattle.table.specs.State.{order_of, stage_of, is_nothing}
use Rattle.table.proofs.Held.{ordered}
use Rattle.fill.specs.Calls.{held_table}
use Rattle.lent.specs.Lent.{lent_diagram}
use Rattle.network.specs.Build.{held_network, wanted}
use Rattle.network.proofs.Building.LentNetwork.{lent-held}
use Rattle.network.proofs.Building.BuiltRows.{built_cells, built_roots}

pub canonical-built : (s : State) (values care roots cells : List ℕ) → T (not (is_nothing (stage_of s)))
    → canonical true s.n s.m (order_of s)
    (lent_diagram (wanted s values care) s.m (built_cells s values care cells) (built_roots s values care roots))
    ≡ true
unfolding held_network network_of
canonical-built s values care roots cells held =
    let t = held_table s values care in
    ap (canonical true s.n s.m (order_of s)) (lent-held s values care held cells roots)
    ∙ network-canonical true s.n s.m (order_of s) (filled true t (order_of s)) (ordered s held) (filled-length true t (order_of s))
