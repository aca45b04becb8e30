-- `fill::cells::total` meets its contract. Assumes nothing.
use Rattle.std.proofs.Common.{rules, ◌≡◌, ◌∙◌, ◌<◌, ◌^◌}
use Rattle.std.specs.List.{sum}
use Rattle.fill.proofs.Buffers.Sizes.{sizes}
use Rattle.fill.proofs.Counting.CountedCells.{sum_is}
use Rattle.fill.proofs.cells.total.Goals as goal

pub sum-requires-clause-fits : goal.sum-requires-clause-fits
sum-requires-clause-fits c =
    let h : sum c.args.counts < 2 ^ 64 = omega (sizes, sum_is c.args.counts, c.requires) in search rules

pub returns : goal.returns
returns c =
    let e : c.sum.result ≡ sum c.args.counts = search rules in
    e ∙ sum_is c.args.counts
