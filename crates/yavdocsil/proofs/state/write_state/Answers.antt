-- `yavdocsil::state::write_state` meets its contract: the heading, then the order.
-- Assumes nothing.
use mathlib.Core.Path.{ap, ◌∙◌}
use native.Mathlib.Omega.{arith}
use Rattle.yavdocsil.specs.Words.{state_from}
use Rattle.yavdocsil.proofs.StateWords.{written, read-written}
use Rattle.yavdocsil.proofs.state.write_state.Goals as goal

pub returns : goal.returns
returns c =
    let o = c.write_order in
    let a = c.args in
    let e =
    written a.state a.words.now c.write_words.new.words o.new.words c.stage_word.result c.stage_word.ensures
    c.write_words.ensures o.ensures.0 in record {
      words = e;
      again = ap state_from e ∙ read-written a.state a.words.now (omega arith) o.ensures.1;
    }
