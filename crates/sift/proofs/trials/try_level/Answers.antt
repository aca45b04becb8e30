-- `sift::trials::try_level` meets its contract. The best with one trial more, taken or not.
-- Assumes nothing.
use mathlib.Core.Path.{sym, ◌∙◌}
use Rattle.sift.proofs.Trying.BestLevel.{with-taken, with-left}
use Rattle.sift.proofs.trials.try_level.Goals as goal

pub returns-then-is_taken : goal.returns-then-is_taken
returns-then-is_taken c =
    let a = c.args in
    let k = c.is_taken in
    sym (with-taken a.best a.nodes a.present a.p (sym k.ensures ∙ c.if-is_taken.true))

pub returns : goal.returns
returns c =
    let a = c.args in
    let k = c.is_taken in
    sym (with-left a.best a.nodes a.present a.p (sym k.ensures ∙ c.if-is_taken.false))
