use mathlib.Core.Path.{◌≡◌, sym, ap, ◌∙◌}
use Prim.Native.Nat.{ℕ, ◌<◌}
use native.Mathlib.Omega.{arith}
use lib.Seq.{length-take-le, get_or-take}
use Rattle.lists.specs.Bits.{digit, packed}
use Rattle.lent.specs.Inner.Cells.{level_bit}
use Rattle.lent.specs.Lent.{lent_cells}
use Rattle.lent.proofs.Tables.Gathered.{digit-byte, bit_added, sum_fits}
use Rattle.lent.proofs.Answered.{given_at}
use Rattle.lent.proofs.Outputs.{found_at, outputs-given}
use Rattle.lent.proofs.network.Network.outputs.Goals as goal
use Rattle.lent.proofs.network.Network.outputs.Goals.{After-from}

-- output j is what was found
found : (c : After-from) → let w = c.args.self.now in
    c.from.result ≡ digit (given_at (lent_cells w.state.count w.cells.now) (level_bit c.level_bits-bits.result) w.state.n w.roots.now c.loop-j.j)
found c =
    let w = c.args.self.now in
    let s = w.state in
    let so = length-take-le s.m w.roots.now w.evaluable.rooted.fit in
    c.from.ensures ∙ digit-byte c.follow.result
    ∙ sym
    (ap digit
    (found_at (lent_cells s.count w.cells.now) (level_bit c.level_bits-bits.result) s.n w.roots.now c.loop-j.j _
    (get_or-take s.m w.roots.now c.loop-j.j 0 (omega arith)) c.follow.result c.follow.ensures))

-- the outputs are few
small : (c : After-from) → c.loop-j.j < 64
small c =
    let w = c.args.self.now in
    omega (arith, w.evaluable.rooted.few, length-take-le w.state.m w.roots.now w.evaluable.rooted.fit)

pub overflow_add-total : goal.overflow_add-total
overflow_add-total c =
    let w = c.args.self.now in
    let l = c.loop-j in
    let at = (goal.at.overflow_add-total c).After-from in
    omega (
      arith,
      sum_fits (given_at (lent_cells w.state.count w.cells.now) (level_bit c.level_bits-bits.result) w.state.n w.roots.now) l.j l.total
          l.invariant (small at) c.from.result (found at),
    )

pub loop-j-preserved : goal.loop-j-preserved
loop-j-preserved c =
    let w = c.args.self.now in
    let l = c.loop-j in
    let at = (goal.at.loop-j-preserved c).After-from in
    bit_added (given_at (lent_cells w.state.count w.cells.now) (level_bit c.level_bits-bits.result) w.state.n w.roots.now) l.j l.total
    l.invariant (small at) c.from.result (found at)

pub returns : goal.returns
returns c =
    let w = c.args.self.now in
    let s = w.state in
    let bits = c.level_bits-bits in
    let so = length-take-le s.m w.roots.now w.evaluable.rooted.fit in
    let e : c.loop-j.j ≡ s.m = omega arith in
    c.loop-j.invariant
    ∙ ap (λ (k : ℕ). packed k (given_at (lent_cells s.count w.cells.now) (level_bit bits.result) s.n w.roots.now)) e
    ∙ outputs-given s w.roots.now w.cells.now w.evaluable c.args.row bits.result bits.ensures
