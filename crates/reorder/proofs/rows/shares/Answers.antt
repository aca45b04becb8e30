-- Each turn adds the share of one variable. Assumes nothing.
use Rattle.std.proofs.Common.{◌≡◌, refl, ap, ◌∙◌, suc, ◌*◌, ◌-◌, ◌%◌, ◌^◌, arith}
use Rattle.reorder.proofs.Shares.{level_bit, shares-more, shares-room, shares-all}
use Rattle.reorder.proofs.rows.shares.Goals as goal
use Rattle.reorder.proofs.rows.shares.Goals.{After-saturating_sub-bit}

-- the bit of the variable's level
at_level : (c : After-saturating_sub-bit) → c.saturating_sub-bit.result ≡ level_bit c.args.n c.args.order c.loop-v.v
at_level c =
    let n = c.args.n in
    let e : c.saturating_sub-bit.result ≡ n - suc c.level_of.result = omega arith in
    e ∙ ap (λ p. n - suc p) c.level_of.ensures

pub overflow_add-shares : goal.overflow_add-shares
overflow_add-shares c =
    let a = c.args in
    let l = c.loop-v in
    omega (
      arith,
      shares-room a.n a.order l.v (omega arith) (omega arith) l.shares l.invariant c.saturating_sub-bit.result
          (1 * 2 ^ (a.n - 1 - l.v) % 65536) (at_level (goal.at.overflow_add-shares c).After-saturating_sub-bit) refl,
    )

pub loop-v-preserved : goal.loop-v-preserved
loop-v-preserved c =
    let a = c.args in
    let l = c.loop-v in
    shares-more a.n a.order l.v (omega arith) (omega arith) l.shares l.invariant c.saturating_sub-bit.result _
    (at_level (goal.at.loop-v-preserved c).After-saturating_sub-bit) refl

pub returns : goal.returns
returns c = c.loop-v.invariant ∙ shares-all c.args.n c.args.order c.loop-v.v (omega arith)
