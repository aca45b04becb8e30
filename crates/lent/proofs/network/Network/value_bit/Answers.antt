-- `lent::network::Network::value_bit` meets its contract: past the stream nothing, else what the row gives at its output's root.
-- Assumes nothing.
use mathlib.Core.Path.{refl, ◌∙◌, sym}
use mathlib.Core.Bool.{true}
use Prim.Native.Nat.{◌*◌, ◌/◌, ◌^◌, ◌<◌}
use native.Mathlib.Omega.{arith}
use lib.Dec.{T}
use lib.ListN.{get_or}
use Rattle.lists.proofs.Bits.Masks.{row-masked}
use Rattle.diagram.specs.Networks.Diagram.{refers}
use Rattle.table.proofs.Files.Answers.{shifted-out}
use Rattle.lent.specs.Lent.{lent_cells}
use Rattle.lent.proofs.Following.{packed-gives}
use Rattle.lent.proofs.Outputs.{root-own}
use Rattle.lent.proofs.Tables.Tabulating.{bit_past, output-of, bit-followed}
use Rattle.lent.proofs.network.Network.value_bit.Goals as goal
use Rattle.lent.proofs.network.Network.value_bit.Goals.{Else-self-n}

pub returns-then-self-n : goal.returns-then-self-n
returns-then-self-n c =
    let w = c.args.self.now in
    let s = w.state in
    sym
    (bit_past s w.roots.now w.cells.now c.args.x
    (omega (arith, c.if-self-n.true, shifted-out s.n s.m w.evaluable.followable.levelled.few w.evaluable.rooted.few)))

-- before the stream's end
inside : (c : Else-self-n) → c.args.x < c.args.self.now.state.m * 2 ^ c.args.self.now.state.n
inside c =
    let w = c.args.self.now in
    let s = w.state in
    omega (arith, c.if-self-n.false, shifted-out s.n s.m w.evaluable.followable.levelled.few w.evaluable.rooted.few)

-- the root is the diagram's own
own : (c : Else-self-n) → let w = c.args.self.now in
    T (refers true (lent_cells w.state.count w.cells.now) (get_or w.roots.now (c.args.x / 2 ^ w.state.n) 0))
own c =
    let w = c.args.self.now in
    let s = w.state in
    let q = w.evaluable.rooted in
    root-own (lent_cells s.count w.cells.now) s.m w.roots.now q.fit q.own (c.args.x / 2 ^ s.n)
    (output-of s w.roots.now w.cells.now c.args.x (inside c)) _ refl

pub follow-requires : goal.follow-requires
follow-requires c =
    own (goal.at.follow-requires c).Else-self-n

pub returns : goal.returns
returns c =
    let w = c.args.self.now in
    let s = w.state in
    let t = c.level_bits-bits in
    let past = (goal.at.returns c).Else-self-n in
    bit-followed s w.roots.now w.cells.now c.args.x (inside past) _ _
    (row-masked s.n c.args.x (omega (arith, w.evaluable.followable.levelled.few))) refl c.follow.result
    (c.follow.ensures
    ∙ packed-gives s.n (lent_cells s.count w.cells.now) w.evaluable.followable.levelled.good _ t.result t.ensures _ (own past))
