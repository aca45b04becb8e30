-- `fill::outputs::zero` meets its contract. Assumes nothing.
use Rattle.std.proofs.Common.{rules, ◌≡◌, ◌∙◌, ap, ◌+◌, ◌-◌, length, replicate, arith, ℕ}
use lib.ListN.{length-replicate}
use Rattle.lists.specs.Written.{splice}
use Rattle.lists.proofs.Written.Splice.{put_back}
use Rattle.fill.proofs.outputs.zero.Goals as goal

pub returns : goal.returns
returns c =
    let a = c.args in
    let n : a.from + a.count - a.from ≡ a.count = omega arith in
    let zeros : c.fill.new.self ≡ replicate a.count 0 = search rules in
    put_back a.l.now a.from (a.from + a.count - a.from) c.fill.new.self (omega (arith, ap length zeros, length-replicate {A = ℕ} a.count 0))
    ∙ ap (splice a.l.now a.from) zeros
