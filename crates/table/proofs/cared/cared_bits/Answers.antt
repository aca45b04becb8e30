use borrow.Author.Rules.{rules}
use Prim.Native.Nat.{ℕ, ◌*◌, ◌+◌, min}
use mathlib.Core.Path.{◌≡◌, ap, ap₂, ◌∙◌}
use Rattle.lists.specs.Bits.{digit}
use Rattle.lists.specs.Sums.{sum_below}
use Rattle.block.specs.Bits.{stream_bit}
use native.Mathlib.Omega.{arith}
use Rattle.lists.proofs.Numbers.Sums.{sum-none, sum-part, sum-whole}
use Rattle.table.proofs.cared.cared_bits.Goals as goal

pub loop-w-init : goal.loop-w-init
loop-w-init c =
    (sum-none (λ i. digit (stream_bit c.args.care.now i)) c.args.bits, search rules, search rules)

pub loop-w-preserved : goal.loop-w-preserved
loop-w-preserved c =
    let a = c.args in
    let l = c.loop-w in
    let r = c.cared_in-total in
    let f : ℕ → ℕ = λ i. digit (stream_bit a.care.now i) in
    let e : 64 * l.w + 64 ≡ 64 * (l.w + 1) = omega arith in (
      ap₂ (λ (x y : ℕ). x + y) l.invariant.0 r.ensures.0 ∙ sum-part f (64 * l.w) 64 a.bits (search rules)
          ∙ ap (λ (k : ℕ). sum_below f (min k a.bits)) e,
      omega (arith, r.ensures.1),
      omega arith,
    )

pub returns : goal.returns
returns c =
    let a = c.args in
    let l = c.loop-w in
    l.invariant.0 ∙ sum-whole (λ i. digit (stream_bit a.care.now i)) (64 * l.w) a.bits (search rules)
