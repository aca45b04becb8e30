-- `sift::trials::is_taken` meets its contract. By the two tests.
-- Assumes nothing.
use mathlib.Core.Path.{sym}
use Rattle.sift.proofs.Trying.BestLevel.{taken-first, taken-tie, taken-else}
use Rattle.sift.proofs.trials.is_taken.Goals as goal

pub returns-then-best-eq0 : goal.returns-then-best-eq0
returns-then-best-eq0 c =
    let a = c.args in
    sym (taken-first a.best a.nodes a.present c.if-best-eq0.true)

pub returns-then-nodes-best : goal.returns-then-nodes-best
returns-then-nodes-best c =
    let a = c.args in
    sym (taken-tie a.best a.nodes a.present c.if-best-eq0.false c.if-nodes-best.true)

pub returns : goal.returns
returns c =
    let a = c.args in
    sym (taken-else a.best a.nodes a.present c.if-best-eq0.false c.if-nodes-best.false)
