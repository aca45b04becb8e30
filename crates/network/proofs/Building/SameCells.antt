-- What two builds leave is equal exactly where their filled tables are (document 02, 2.10).
-- Assumes nothing.
use mathlib.Core.Path.{◌≡◌, sym, ap, ap₂, ◌∙◌}
use mathlib.Core.Bool.{true}
use mathlib.Core.List.{List}
use mathlib.Core.Logic.Iff
use Prim.Native.Nat.{ℕ, ◌*◌, ◌≤◌}
use native.Mathlib.Omega.{arith}
use lib.ListN.{length}
use Rattle.diagram.specs.Canonical.SameCells.{SameCells}
use Rattle.diagram.proofs.Canonical.SameCells.{network-same, same-network, same-cells}
use Rattle.table.specs.Answer.{Outcome, state_after}
use Rattle.table.specs.declared.State.{State}
use Rattle.table.specs.State.{order_of}
use Rattle.table.proofs.Held.{ordered}
use Rattle.fill.specs.Calls.{held_table}
use Rattle.lent.specs.Lent.{lent_diagram}
use Rattle.lent.proofs.SameCells.{lent_same}
use Rattle.network.specs.Build.{held_network, wanted, build_outcome, build_roots, build_cells}
use Rattle.network.specs.SameCells.{count_left, cells_left, roots_left, SameBuilds}
use Rattle.network.proofs.Building.LentNetwork.{lent-held, cells-enough}
use Rattle.network.proofs.Building.Outcomes.{Succeeded, succeeded, done-outcome, done-roots, done-cells}

-- what a build that is done leaves
module _ (s : State) (values care work roots cells : List ℕ) (B : Succeeded s values care work roots cells) where
  pub count_left-done : (state_after s (build_outcome s values care work roots cells)).count ≡ wanted s values care
  count_left-done = ap (λ (r : Outcome). (state_after s r).count) (sym (done-outcome s values care work roots cells B.answer))

  -- the diagram in the cells and the roots is the held table's network
  pub diagram-left : lent_diagram (state_after s (build_outcome s values care work roots cells)).count s.m
      (build_cells s values care work roots cells) (build_roots s values care work roots cells)
      ≡ held_network s values care
  diagram-left =
      ap (λ (k : ℕ). lent_diagram k s.m (build_cells s values care work roots cells) (build_roots s values care work roots cells)) count_left-done
      ∙ ap₂ (lent_diagram (wanted s values care) s.m) (sym (done-cells s values care work roots cells B.answer))
      (sym (done-roots s values care work roots cells B.answer))
      ∙ lent-held s values care B.held cells roots

  -- all counted cells are lent
  cells_fit : 3 * (state_after s (build_outcome s values care work roots cells)).count ≤ length (build_cells s values care work roots cells)
  cells_fit =
      let e = ap (λ (l : List ℕ). length l) (done-cells s values care work roots cells B.answer) in
      omega (arith, count_left-done, cells-enough s values care cells, e)

pub same-builds : SameBuilds
unfolding SameBuilds SameCells held_network
same-builds b c db dc en em eo =
    let B = succeeded b.state b.values b.care b.work b.roots b.cells db in
    let C = succeeded c.state c.values c.care c.work c.roots c.cells dc in
    let m : ℕ = b.state.m in
    let ours = lent_diagram (count_left b) m (cells_left b) (roots_left b) in
    let theirs = lent_diagram (count_left c) m (cells_left c) (roots_left c) in
    let e : ours ≡ held_network b.state b.values b.care =
    diagram-left b.state b.values b.care b.work b.roots b.cells B in
    let f : theirs ≡ held_network c.state c.values c.care =
    ap (λ (k : ℕ). lent_diagram (count_left c) k (cells_left c) (roots_left c)) em
    ∙ diagram-left c.state c.values c.care c.work c.roots c.cells C in
    Iff.trans
    (same-cells true (held_table b.state b.values b.care) (held_table c.state c.values c.care)
    (order_of b.state) (order_of c.state) en em eo (ordered b.state B.held))
    (Iff.trans (λ s. e ∙ same-network s ∙ sym f, λ q. network-same (sym e ∙ q ∙ f))
    (lent_same m (count_left b) (count_left c) (cells_left b) (cells_left c) (roots_left b) (roots_left c)
    (cells_fit b.state b.values b.care b.work b.roots b.cells B)
    (cells_fit c.state c.values c.care c.work c.roots c.cells C)))
