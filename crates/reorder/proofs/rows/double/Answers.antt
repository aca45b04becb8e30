-- Each row is as it was in the map, and the rest is the map behind the rows. Assumes nothing.
use Rattle.std.proofs.Common.{ap, ◌∙◌, ℕ, ◌+◌, List, get_or, arith, get_or-take}
use Rattle.lists.proofs.Written.Over.{over-next}
use Rattle.reorder.proofs.rows.double.Goals as goal

pub loop-s-preserved : goal.loop-s-preserved
loop-s-preserved c =
    let a = c.args in
    let cut = c.split_at_mut-rows.ensures in
    let f : ℕ → ℕ = λ s. get_or a.map.now s 0 + a.share in
    let i = c.loop-s.s in
    over-next f _ _ i _ (omega arith) c.loop-s.invariant
    (ap (λ (r : List ℕ). get_or r i 0 + a.share) cut.front ∙ ap (λ x. x + a.share) (get_or-take a.count a.map.now i 0 (omega arith)))
