-- The two lowest bytes of the number are copied. Assumes nothing.
use Rattle.std.proofs.Common.{ap, ◌∙◌, List, ℕ, length, take, arith}
use Rattle.lists.specs.Written.{splice}
use Rattle.lists.proofs.Written.Splice.{put_back}
use Rattle.matching.proofs.link.put_link.Goals as goal

pub returns : goal.returns
returns c =
    let a = c.args in
    let e = c.copy_from_slice.ensures.after ∙ ap (λ (l : List ℕ). take 2 l) c.to_le_bytes.ensures in
    put_back a.work.now a.at _ c.copy_from_slice.new.self (ap length e ∙ omega arith) ∙ ap (splice a.work.now a.at) e
