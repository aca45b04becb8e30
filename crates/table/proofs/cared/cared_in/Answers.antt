-- `table::cared::cared_in` meets its contract: a whole word's ones, or those that the mask leaves. Assumes nothing.
use borrow.Author.Rules.{rules}
use Prim.Native.Nat.{◌*◌, ◌-◌}
use native.Mathlib.Omega.{arith}
use Rattle.table.proofs.Planes.CaredBits.{mask-some, count-whole, count-part}
use Rattle.table.proofs.cared.cared_in.Goals as goal

pub overflow_cast-result : goal.overflow_cast-result
overflow_cast-result c =
    let a = c.args in
    let given = c.shared_slice_known-1.given in
    let r = c.word_at-word in
    let k = count-whole a.care.now (λ i. (given i).fits) a.w a.bits r.result r.ensures (search rules) in
    omega (arith, k.1)

pub returns-then-left-ge64 : goal.returns-then-left-ge64
returns-then-left-ge64 c =
    let a = c.args in
    let given = c.shared_slice_known-1.given in
    let r = c.word_at-word in
    count-whole a.care.now (λ i. (given i).fits) a.w a.bits r.result r.ensures (search rules)

pub overflow_sub-result : goal.overflow_sub-result
overflow_sub-result c =
    mask-some (c.args.bits - 64 * c.args.w) (search rules)

pub overflow_cast-result-2 : goal.overflow_cast-result-2
overflow_cast-result-2 c =
    let a = c.args in
    let given = c.shared_slice_known-1.given in
    let r = c.word_at-word in
    let k = count-part a.care.now (λ i. (given i).fits) a.w a.bits r.result r.ensures (search rules) in
    omega (arith, k.1)

pub returns : goal.returns
returns c =
    let a = c.args in
    let given = c.shared_slice_known-1.given in
    let r = c.word_at-word in
    count-part a.care.now (λ i. (given i).fits) a.w a.bits r.result r.ensures (search rules)
