-- `lent::network::Network::next` meets its contract: the cell behind the reference is lent, and its level is below n.
-- Assumes nothing.
use mathlib.Core.Path.{◌∙◌}
use Prim.Native.Nat.{◌+◌, ◌-◌, ◌/◌, ◌≤◌}
use native.Mathlib.Omega.{arith}
use lib.ListN.{length}
use Rattle.lists.proofs.Bits.Digits.{digit-le}
use Rattle.lent.specs.Lent.{lent_node}
use Rattle.lent.specs.Inner.Cells.{level_bit}
use Rattle.lent.proofs.LevelBits.{level-masked}
use Rattle.lent.proofs.SelectedEdge.{edge-selected}
use Rattle.lent.proofs.Following.{own-le, level-below, edge-behind}
use Rattle.lent.proofs.network.Network.next.Goals as goal
use Rattle.lent.proofs.network.Network.next.Goals.{Start}

-- the reference is to a counted cell, which is lent
counted : (s : Start) → (s.args.r ≤ s.args.self.now.state.count + s.args.self.now.state.count + 1) × (s.args.self.now.state.count ≤ length s.args.self.now.cells.now / 3)
counted s =
    let w = s.args.self.now in
    let ok = w.evaluable.followable.levelled in
    (own-le w.state.n w.state.count w.cells.now ok s.args.r s.requires.0 s.requires.1, ok.held)

pub overflow_mul-first : goal.overflow_mul-first
overflow_mul-first c =
    omega (arith, counted (goal.at.overflow_mul-first c).Start)

pub tested_number-p-requires : goal.tested_number-p-requires
tested_number-p-requires c =
    omega (arith, counted (goal.at.tested_number-p-requires c).Start)

pub overflow_add-first : goal.overflow_add-first
overflow_add-first c =
    omega (arith, counted (goal.at.overflow_add-first c).Start)

pub tested_number-low-requires : goal.tested_number-low-requires
tested_number-low-requires c =
    omega (arith, counted (goal.at.tested_number-low-requires c).Start)

pub overflow_add-first-2 : goal.overflow_add-first-2
overflow_add-first-2 c =
    omega (arith, counted (goal.at.overflow_add-first-2 c).Start)

pub tested_number-high-requires : goal.tested_number-high-requires
tested_number-high-requires c =
    omega (arith, counted (goal.at.tested_number-high-requires c).Start)

pub overflow_shr-bits : goal.overflow_shr-bits
overflow_shr-bits c =
    let w = c.args.self.now in
    let ok = w.evaluable.followable.levelled in
    omega (
      arith,
      ok.few,
      c.tested_number-p.ensures,
      level-below w.state.n w.state.count w.cells.now ok c.args.r c.requires.0 c.requires.1,
    )

pub selected_edge-requires : goal.selected_edge-requires
selected_edge-requires c =
    let a = c.args in
    let p = c.tested_number-p.result in
    omega (arith, level-masked a.bits p, digit-le (level_bit a.bits p))

pub returns : goal.returns
returns c =
    let a = c.args in
    let w = a.self.now in
    let p = c.tested_number-p in
    let low = c.tested_number-low in
    let high = c.tested_number-high in
    c.selected_edge.ensures
    ∙ edge-selected (level_bit a.bits p.result) (lent_node w.cells.now (a.r / 2 - 1)) _ low.result high.result
    (level-masked a.bits p.result) low.ensures high.ensures
    ∙ edge-behind w.state.n w.state.count w.cells.now w.evaluable.followable.levelled a.r c.requires.0 c.requires.1 (level_bit a.bits)
    p.result p.ensures
