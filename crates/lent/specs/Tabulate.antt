-- Request 2.2 of document 02, the table that lent cells compute: 10, 22, 24, then 'every row cared', in values and care.
-- Assumes nothing.
use Rattle.std.specs.Prelude.{true, cond, ◌&&◌, List, ℕ, leb, length, Ok}
use Rattle.lists.specs.Written.{over}
use Rattle.diagram.specs.Table.{Table}
use Rattle.diagram.specs.Canonical.Computed.{computed_table}
use Rattle.table.specs.Answer.{Answer}
use Rattle.table.specs.declared.Refusal.TheVariants.{ShortBuffer, NoNetwork, BadCells}
use Rattle.table.specs.declared.State.{State}
use Rattle.table.specs.Answer.{unless, done}
use Rattle.table.specs.State.{order_of, stage_of, is_network}
use Rattle.table.specs.Stream.{plane_byte}
use Rattle.table.specs.Calls.{plane_size}
use Rattle.lent.specs.Lent.{lent_diagram, roots_size}
use Rattle.lent.specs.Evaluate.{good_cells}

unfoldable pub tabulate_answer : State → List ℕ → List ℕ → List ℕ → List ℕ → Answer
tabulate_answer s roots cells values care =
    unless (leb roots_size (length roots) && (leb plane_size (length values) && leb plane_size (length care))) ShortBuffer
    (unless (is_network (stage_of s)) NoNetwork (unless (good_cells s roots cells) BadCells (Ok 0)))

-- what the lent cells compute under the state's order
abbrev pub lent_table : State → List ℕ → List ℕ → Table
lent_table s roots cells = computed_table true s.n s.m (order_of s) (lent_diagram s.count s.m cells roots)

-- a success writes all of both planes, zero past the stream; a refusal leaves them as they were
unfoldable pub tabulate_values : State → List ℕ → List ℕ → List ℕ → List ℕ → List ℕ
tabulate_values s roots cells values care =
    cond (done (tabulate_answer s roots cells values care))
    (over (plane_byte (λ x. x.value) (lent_table s roots cells)) plane_size values) values

unfoldable pub tabulate_care : State → List ℕ → List ℕ → List ℕ → List ℕ → List ℕ
tabulate_care s roots cells values care =
    cond (done (tabulate_answer s roots cells values care))
    (over (plane_byte (λ x. x.care) (lent_table s roots cells)) plane_size care) care
