-- Networks held that pass the tests of 24 and 32 are equal exactly where the tables that they compute are (document 02, 2.10).
-- Assumes nothing.
use mathlib.Core.Path.{◌≡◌, sym, ap, ◌∙◌}
use mathlib.Core.Bool.{true}
use mathlib.Core.List.{List}
use mathlib.Core.Logic.Iff
use Prim.Native.Nat.{ℕ}
use native.Mathlib.Omega.{arith}
use Rattle.lists.proofs.Bools.{to-T}
use Rattle.diagram.specs.Table.{network_of}
use Rattle.diagram.proofs.Canonical.NetworkIff.{canonical-is}
use Rattle.diagram.proofs.Canonical.SameCells.{same-network, network-same, cared-cells}
use Rattle.table.specs.declared.State.{State}
use Rattle.table.specs.State.{order_of}
use Rattle.table.proofs.Held.{ordered}
use Rattle.lent.specs.Lent.{lent_diagram}
use Rattle.lent.specs.Tabulate.{lent_table}
use Rattle.lent.proofs.SameCells.{lent_same}
use Rattle.canonical.specs.SameCells.{SameHeld}
use Rattle.canonical.proofs.Answered.{Success, success}

-- such cells are the network of the table that they compute
held-network : (s : State) (roots cells : List ℕ) → Success s roots cells
    → network_of true (lent_table s roots cells) (order_of s) ≡ lent_diagram s.count s.m cells roots
held-network s roots cells S = canonical-is true s.n s.m (order_of s) (lent_diagram s.count s.m cells roots) S.network

pub same-held : SameHeld
unfolding SameHeld
same-held s s' roots cells roots' cells' d d' en em eo =
    let S = success s roots cells (to-T d) in
    let S' = success s' roots' cells' (to-T d') in
    let e = held-network s roots cells S in
    let e' : network_of true (lent_table s' roots' cells') (order_of s') ≡ lent_diagram s'.count s.m cells' roots' =
    held-network s' roots' cells' S' ∙ ap (λ (m : ℕ). lent_diagram s'.count m cells' roots') (sym em) in
    Iff.trans
    (cared-cells true (lent_table s roots cells) (lent_table s' roots' cells') (order_of s) (order_of s') en em eo (ordered s S.held)
    (λ j r h k. tt) (λ j r h k. tt))
    (Iff.trans (λ n. sym e ∙ same-network n ∙ e', λ q. network-same (e ∙ q ∙ sym e'))
    (lent_same s.m s.count s'.count cells cells' roots roots' (omega (arith, S.enough)) (omega (arith, S'.enough))))
