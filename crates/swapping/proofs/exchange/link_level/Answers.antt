use Rattle.std.proofs.Common.{◌≡◌, sym, ap, ◌∙◌, arith, take, length, ◌+◌, ◌*◌, ◌++◌, ◌∷◌, []}
use Rattle.std.proofs.lemmas.List.{take_more}
use lib.Seq.{length-take-le}
use Rattle.diagram.specs.Exchanging.Exchange.{Pair, half_pairs}
use Rattle.diagram.proofs.Exchanging.PairBounds.{half_pairs-length}
use Rattle.swapping.specs.Inner.Exchange.{lent_at}
use Rattle.swapping.proofs.LevelLinks.{linked-few, linked-more, halves-append}
use Rattle.swapping.proofs.exchange.link_level.Goals as goal
use Rattle.swapping.proofs.exchange.link_level.Goals.{In-loop-j}

-- the halves of the first j entries are two each
halves : (c : In-loop-j)
    → let a = c.args in
    length (half_pairs (lent_at a.cells.now) a.p a.q (take c.loop-j.j a.level.now)) ≡ 2 * c.loop-j.j
halves c =
    let a = c.args in
    half_pairs-length (lent_at a.cells.now) a.p a.q (take c.loop-j.j a.level.now)
    ∙ ap (λ k. 2 * k) (length-take-le c.loop-j.j a.level.now (omega arith))

pub link_entry-requires-clause-room : goal.link_entry-requires-clause-room
link_entry-requires-clause-room c =
    omega (arith, linked-few c.loop-j.invariant, halves (goal.at.link_entry-requires-clause-room c).In-loop-j)

pub loop-j-preserved : goal.loop-j-preserved
loop-j-preserved c =
    let a = c.args in
    let j = c.loop-j.j in
    let node = lent_at a.cells.now in
    let entry = c.index-level-j.result in
    let more = take_more a.level.now j entry (omega arith) ∙ ap (λ (f : Pair). take j a.level.now ++ f ∷ []) (sym c.index-level-j.is) in
    let e = ap (half_pairs node a.p a.q) more ∙ halves-append node a.p a.q (take j a.level.now) (entry ∷ []) in
    rw e
    (linked-more c.loop-j.invariant (half_pairs node a.p a.q (entry ∷ [])) (a.at + 4 * j) _ _
    (omega (arith, halves (goal.at.loop-j-preserved c).In-loop-j)) c.link_entry.ensures.below c.link_entry.ensures.work)
