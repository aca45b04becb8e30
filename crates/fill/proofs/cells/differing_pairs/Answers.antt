-- `fill::cells::differing_pairs` meets its contract. Assumes nothing.
use Rattle.std.proofs.Common.{rules, ◌≡◌, ◌∙◌, ap, ◌/◌, length, List, ℕ, arith}
use Rattle.std.specs.List.{count_by}
use Rattle.fill.specs.Counts.{pair_differs}
use Rattle.fill.proofs.Counting.CountedCells.{pairs-chunks}
use Rattle.fill.proofs.cells.differing_pairs.Goals as goal

pub returns : goal.returns
returns c =
    let links = c.args.links.now in
    let e : c.count.result ≡ count_by (λ pair. pair_differs pair 0) c.as_chunks.result.0.now = search rules in
    e ∙ ap (λ (pairs : List (List ℕ)). count_by (λ pair. pair_differs pair 0) pairs) c.as_chunks.ensures.front
    ∙ pairs-chunks (length links / 4) links (omega arith)
