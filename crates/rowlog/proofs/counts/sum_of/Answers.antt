-- `rowlog::counts::sum_of` meets its contract. Assumes nothing.
use Rattle.std.proofs.Common.{rules, ◌≡◌, ◌∙◌, map}
use Rattle.std.specs.List.{sum}
use Rattle.rowlog.proofs.Counting.{sum_is}
use Rattle.rowlog.proofs.counts.sum_of.Goals as goal

pub returns : goal.returns
returns c =
    let e : c.sum.result ≡ sum (map (λ x. x) c.args.counts.now) = search rules in
    e ∙ sum_is c.args.counts.now
