-- `rowlog::care::care_byte` meets its contract. Assumes nothing.
use mathlib.Core.Path.{◌≡◌, sym, ap, ◌∙◌}
use mathlib.Core.Bool.{Bool}
use Prim.Native.Nat.{ℕ, ◌+◌, ◌*◌}
use native.Mathlib.Omega.{arith}
use Rattle.lists.specs.Bits.{packed}
use Rattle.lists.proofs.Bits.Packed.{bit-set, bit-clear}
use Rattle.table.proofs.Planes.PlaneSize.{plane-size}
use Rattle.rowlog.specs.Inner.Care.{care_bit}
use Rattle.rowlog.proofs.Caring.{byte-of-bits}
use Rattle.rowlog.proofs.care.care_byte.Goals as goal
use Rattle.rowlog.proofs.care.care_byte.Goals.{then-care_bit, else-care_bit}

pub overflow_mul-i : goal.overflow_mul-i
overflow_mul-i c =
    omega (arith, plane-size)

pub overflow_add-i : goal.overflow_add-i
overflow_add-i c =
    omega (arith, plane-size)

pub loop-b-preserved : goal.loop-b-preserved
loop-b-preserved c =
    let v = c.care_bit in
    let l = c.loop-b in
    let a = c.args in
    let f : ℕ → Bool = λ k. care_bit a.counts.now a.least a.n a.end (8 * a.i + k) in
    elim c.if-care_bit.branch [
      | then-care_bit w ↦ w.byte-is ∙ bit-set l.b f l.byte l.invariant (omega arith) (sym v.ensures ∙ w.if-care_bit.true)
      | else-care_bit w ↦ w.byte-is ∙ bit-clear l.b f l.byte l.invariant (sym v.ensures ∙ w.if-care_bit.false)
    ]

pub returns : goal.returns
returns c =
    let l = c.loop-b in
    let a = c.args in
    let e : l.b ≡ 8 = omega arith in
    l.invariant ∙ ap (λ (k : ℕ). packed k (λ b. care_bit a.counts.now a.least a.n a.end (8 * a.i + b))) e
    ∙ byte-of-bits a.counts.now a.least a.n a.end a.i
