-- The outputs' roots are the diagram's own, and what a row's bits by level give at them are the outputs.
-- Assumes nothing.
use mathlib.Core.Path.{◌≡◌, refl, sym, ◌∙◌}
use mathlib.Core.Bool.{Bool, true}
use mathlib.Core.List.{List, []}
use Prim.Native.Nat.{ℕ, ◌≤◌, ◌<◌}
use native.Mathlib.Omega.{arith}
use lib.Dec.{T}
use lib.ListN.{length, get_or, take}
use lib.Seq.{length-take-le, get_or-take}
use Rattle.lists.specs.Lists.{all}
use Rattle.lists.specs.Bits.{packed}
use Rattle.lists.proofs.Lists.Membership.{all-at}
use Rattle.lists.proofs.Bits.Packed.{packed-cong}
use Rattle.diagram.specs.Networks.Diagram.{Diagram, refers, gives}
use Rattle.diagram.specs.Orders.Order.{row_under}
use Rattle.table.specs.declared.State.{State}
use Rattle.table.specs.State.{order_of}
use Rattle.lent.specs.Inner.Cells.{level_bit}
use Rattle.lent.specs.Inner.Tabulate.{Evaluable}
use Rattle.lent.specs.Lent.{cells_by, lent_cells, lent_diagram}
use Rattle.lent.specs.Evaluate.{row_outputs}
use Rattle.lent.proofs.Answered.{given_at, gives-roots}
use Rattle.lent.proofs.Following.{packed-gives}

-- each of the first m roots is the diagram's own
pub root-own : (D : Diagram) (m : ℕ) (roots : List ℕ) → m ≤ length roots → T (all (refers true D) (take m roots))
    → (j : ℕ) → j < m → (r : ℕ) → r ≡ get_or roots j 0 → T (refers true D r)
root-own D m roots fit t j h r e =
    rw (e, ← get_or-take m roots j 0 h) (all-at (refers true D) (take m roots) t j 0 (omega (arith, length-take-le m roots fit)))

-- what a row gives at a root was found at the root's reference
pub found_at : (D : Diagram) (a : ℕ → Bool) (n : ℕ) (roots : List ℕ) (j r : ℕ) → r ≡ get_or roots j 0 → (b : Bool) → b ≡ gives true D a n r
    → given_at D a n roots j ≡ b
found_at D a n roots j r e b q = rw (← e) (sym q)

-- what the row's bits by level give at the roots are the outputs, whichever roots the diagram has
pub outputs-given : (s : State) (roots cells : List ℕ) → Evaluable s roots cells
    → (row bits : ℕ) → bits ≡ packed s.n (row_under s.n (order_of s) row)
    → packed s.m (given_at (lent_cells s.count cells) (level_bit bits) s.n roots) ≡ row_outputs s row roots cells
unfolding row_outputs lent_diagram cells_by
outputs-given s roots cells ok row bits e =
    let D = lent_cells s.count cells in
    let a = row_under s.n (order_of s) row in
    let k = ok.rooted in
    packed-cong s.m (given_at D (level_bit bits) s.n roots) (given_at (lent_diagram s.count s.m cells roots) a s.n roots)
    (λ j h. packed-gives s.n D ok.followable.levelled.good a bits e (get_or roots j 0) (root-own D s.m roots k.fit k.own j h (get_or roots j 0) refl)
    ∙ gives-roots D.nodes [] (take s.m roots) a s.n (get_or roots j 0))
