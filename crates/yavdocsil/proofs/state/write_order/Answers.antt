-- `yavdocsil::state::write_order` meets its contract: an order has an entry for each variable there can be.
-- Assumes nothing.
use mathlib.Core.Path.{◌≡◌, ap, ◌∙◌}
use native.Mathlib.Omega.{arith}
use lib.ListN.{length}
use lib.Seq.{paste}
use Rattle.diagram.specs.Networks.Bound.{most_variables}
use Rattle.yavdocsil.specs.Words.{order_at}
use Rattle.yavdocsil.proofs.state.write_order.Goals as goal

pub returns : goal.returns
returns c =
    let e : length c.args.order ≡ most_variables = omega (arith, c.well_formed.0.1) in
    (c.write_words.ensures ∙ ap (paste c.args.words.now order_at c.args.order) e, e)
