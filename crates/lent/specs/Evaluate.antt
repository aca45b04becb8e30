-- Evaluation (document 01, sections 4 and 7): 10, 22, 8, 24, then the outputs' bits.
-- Assumes nothing.
use Rattle.std.specs.Prelude.{Bool, true, ◌&&◌, List, ℕ, ◌/◌, ◌^◌, ltb, leb, length, get_or, Ok}
use Rattle.lists.specs.Bits.{packed}
use Rattle.diagram.specs.Networks.Diagram.{well_formed, gives}
use Rattle.diagram.specs.Orders.Order.{row_under}
use Rattle.table.specs.Answer.{Answer}
use Rattle.table.specs.declared.Refusal.TheVariants.{ShortBuffer, NoNetwork, NoRow, BadCells}
use Rattle.table.specs.declared.State.{State}
use Rattle.table.specs.Answer.{unless}
use Rattle.table.specs.State.{order_of, stage_of, is_network}
use Rattle.lent.specs.Lent.{lent_diagram, roots_size}

-- 24: 'lent cells fewer than the count', or cells and roots that are no well-formed diagram
unfoldable pub good_cells : State → List ℕ → List ℕ → Bool
good_cells s roots cells =
    leb s.count (length cells / 3) && well_formed true s.n s.m (lent_diagram s.count s.m cells roots)

-- what the row gives at each output's root: 'bit j of the answer is output j'
unfoldable pub row_outputs : State → ℕ → List ℕ → List ℕ → ℕ
row_outputs s row roots cells =
    packed s.m
    (λ j. gives true (lent_diagram s.count s.m cells roots) (row_under s.n (order_of s) row) s.n (get_or roots j 0))

unfoldable pub evaluate_answer : State → ℕ → List ℕ → List ℕ → Answer
evaluate_answer s row roots cells =
    unless (leb roots_size (length roots)) ShortBuffer
    (unless (is_network (stage_of s)) NoNetwork
    (unless (ltb row (2 ^ s.n)) NoRow
    (unless (good_cells s roots cells) BadCells (Ok (row_outputs s row roots cells)))))
