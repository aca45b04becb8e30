-- `network_file::work::clear_after` meets its contract.
-- Assumes nothing.
use mathlib.Core.Path.{sym, ◌∙◌}
use Rattle.network_file.proofs.work.clear_after.Goals as goal

pub returns-then-clears_work : goal.returns-then-clears_work
returns-then-clears_work c =
    rw (sym c.clears_work.ensures ∙ c.if-clears_work.true) c.clear.ensures

pub returns-else-clears_work : goal.returns-else-clears_work
returns-else-clears_work c =
    rw (sym c.clears_work.ensures ∙ c.if-clears_work.false)
