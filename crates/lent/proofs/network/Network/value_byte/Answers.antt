use mathlib.Core.Path.{◌≡◌, sym, ap, ◌∙◌}
use mathlib.Core.Bool.{Bool}
use Prim.Native.Nat.{ℕ, ◌+◌, ◌*◌}
use native.Mathlib.Omega.{arith}
use Rattle.lists.specs.Bits.{packed}
use Rattle.lists.proofs.Bits.Packed.{bit-set, bit-clear}
use Rattle.table.proofs.Planes.PlaneSize.{plane-size}
use Rattle.lent.specs.Tabulate.{lent_table}
use Rattle.lent.specs.Inner.Tabulate.{table_bit}
use Rattle.lent.proofs.Tables.Tabulating.{byte-of-bits}
use Rattle.lent.proofs.network.Network.value_byte.Goals as goal
use Rattle.lent.proofs.network.Network.value_byte.Goals.{then-value_bit, else-value_bit}

pub overflow_mul-i : goal.overflow_mul-i
overflow_mul-i c =
    omega (arith, plane-size)

pub overflow_add-i : goal.overflow_add-i
overflow_add-i c =
    omega (arith, plane-size)

pub loop-b-preserved : goal.loop-b-preserved
loop-b-preserved c =
    let v = c.value_bit in
    let l = c.loop-b in
    let w = c.args.self.now in
    let f : ℕ → Bool = λ k. table_bit (λ v. v.value) (lent_table w.state w.roots.now w.cells.now) (8 * c.args.i + k) in
    elim c.if-value_bit.branch [
      | then-value_bit w ↦ w.byte-is ∙ bit-set l.b f l.byte l.invariant (omega arith) (sym v.ensures ∙ w.if-value_bit.true)
      | else-value_bit w ↦ w.byte-is ∙ bit-clear l.b f l.byte l.invariant (sym v.ensures ∙ w.if-value_bit.false)
    ]

pub returns : goal.returns
returns c =
    let l = c.loop-b in
    let w = c.args.self.now in
    let t = lent_table w.state w.roots.now w.cells.now in
    let e : l.b ≡ 8 = omega arith in
    l.invariant ∙ ap (λ (k : ℕ). packed k (λ b. table_bit (λ v. v.value) t (8 * c.args.i + b))) e
    ∙ byte-of-bits (λ v. v.value) t c.args.i
