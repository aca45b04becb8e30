-- Request 2.1 of document 02, many rows in one call: 10, 31, 22, 8, 24, then the answers.
-- Assumes nothing.
use Rattle.std.specs.Prelude.{◌≡◌, cond, List, ◌++◌, map, ℕ, ◌<◌, ◌^◌, ltb, leb, length, get_or, drop, Ok}
use Rattle.lists.specs.Lists.{all}
use Rattle.table.specs.Answer.{Answer}
use Rattle.table.specs.declared.Refusal.TheVariants.{ShortBuffer, ShortAnswers, NoNetwork, NoRow, BadCells}
use Rattle.table.specs.declared.State.{State}
use Rattle.table.specs.Answer.{value, unless, done}
use Rattle.table.specs.State.{stage_of, is_network}
use Rattle.lent.specs.Lent.{roots_size}
use Rattle.lent.specs.Evaluate.{good_cells, evaluate_answer}

-- '31, the answer list is shorter than the row list, checked after 10'; 'A row out of range gives 8', wherever it stands;
-- 'An empty list succeeds if a network is held and passes its test'
unfoldable pub rows_answer : State → List ℕ → List ℕ → List ℕ → List ℕ → Answer
rows_answer s rows answers roots cells =
    unless (leb roots_size (length roots)) ShortBuffer
    (unless (leb (length rows) (length answers)) ShortAnswers
    (unless (is_network (stage_of s)) NoNetwork
    (unless (all (λ row. ltb row (2 ^ s.n)) rows) NoRow
    (unless (good_cells s roots cells) BadCells (Ok 0)))))

-- 'Each answer equals evaluating that row alone, and answers past the last row keep their content'
unfoldable pub rows_answers : State → List ℕ → List ℕ → List ℕ → List ℕ → List ℕ
rows_answers s rows answers roots cells =
    cond (done (rows_answer s rows answers roots cells))
    (map (λ row. value (evaluate_answer s row roots cells)) rows ++ drop (length rows) answers) answers

-- each row alone is evaluated with success, and its answer stands at the row's position
unfoldable pub EachAlone : State → List ℕ → List ℕ → List ℕ → List ℕ → Type 0
EachAlone s rows roots cells answers =
    (i : ℕ) → i < length rows → evaluate_answer s (get_or rows i 0) roots cells ≡ Ok (get_or answers i 0)
