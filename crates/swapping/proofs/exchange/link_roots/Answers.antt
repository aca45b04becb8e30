use Rattle.std.proofs.Common.{◌≡◌, ap, ◌∙◌, arith, take, length, ◌+◌, ◌*◌, ◌∷◌, [], map, get_or}
use mathlib.Core.List.{map-append}
use lib.ListN.{length-map}
use Rattle.std.proofs.lemmas.List.{take_more}
use lib.Seq.{length-take-le}
use Rattle.diagram.specs.Exchanging.Exchange.{both}
use Rattle.fill.proofs.Buffers.Sizes.{links-at}
use Rattle.swapping.proofs.LevelLinks.{linked-few, linked-more}
use Rattle.swapping.proofs.exchange.link_roots.Goals as goal
use Rattle.swapping.proofs.exchange.link_roots.Goals.{In-loop-j}

-- the first j roots are j pairs
pairs : (c : In-loop-j) → length (map both (take c.loop-j.j c.args.roots.now)) ≡ c.loop-j.j
pairs c = length-map (take c.loop-j.j c.args.roots.now) both ∙ length-take-le c.loop-j.j c.args.roots.now (omega arith)

pub link_pair-requires-clause-room : goal.link_pair-requires-clause-room
link_pair-requires-clause-room c =
    omega (arith, linked-few c.loop-j.invariant, pairs (goal.at.link_pair-requires-clause-room c).In-loop-j)

pub link_pair-requires-clause-at_in_bounds : goal.link_pair-requires-clause-at_in_bounds
link_pair-requires-clause-at_in_bounds c =
    omega (arith, links-at)

pub loop-j-preserved : goal.loop-j-preserved
loop-j-preserved c =
    let j = c.loop-j.j in
    let l = c.args.roots.now in
    let e = ap (map both) (take_more l j 0 (omega arith)) ∙ map-append both (take j l) (get_or l j 0 ∷ []) in
    let x = c.both-pair.ensures in
    rw e
    (linked-more c.loop-j.invariant (both (get_or l j 0) ∷ []) (8192 + 2 * j) _ _
    (omega (arith, links-at, pairs (goal.at.loop-j-preserved c).In-loop-j)) (rw x at c.link_pair.ensures.entries) (rw x at c.link_pair.ensures.work))
