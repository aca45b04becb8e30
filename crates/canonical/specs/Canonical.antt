-- Request 2.2 of document 02, number 32: 'cells or roots are not section 4's network of what they compute, checked last'. The checks of a
-- held network, for every call that needs it to be section 4's: 10, 22, 24, 32.
-- Assumes nothing.
use Rattle.std.specs.Prelude.{true, List, ℕ, leb, length, Ok}
use Rattle.diagram.specs.Canonical.Computed.{canonical}
use Rattle.table.specs.Answer.{Answer}
use Rattle.table.specs.declared.Refusal.TheVariants.{ShortBuffer, NoNetwork, BadCells, NotCanonical}
use Rattle.table.specs.declared.State.{State}
use Rattle.table.specs.Answer.{unless}
use Rattle.table.specs.State.{order_of, stage_of, is_network}
use Rattle.lent.specs.Lent.{lent_diagram, roots_size}
use Rattle.lent.specs.Evaluate.{good_cells}

unfoldable pub canonical_answer : State → List ℕ → List ℕ → Answer
canonical_answer s roots cells =
    unless (leb roots_size (length roots)) ShortBuffer
    (unless (is_network (stage_of s)) NoNetwork
    (unless (good_cells s roots cells) BadCells
    (unless (canonical true s.n s.m (order_of s) (lent_diagram s.count s.m cells roots)) NotCanonical (Ok 0))))
