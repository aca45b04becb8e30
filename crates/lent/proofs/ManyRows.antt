-- What evaluating many rows answers and leaves, one test after the other, and that each answer is the row's alone.
-- Assumes nothing.
use Rattle.std.specs.Prelude.{Ok}
use mathlib.Core.Path.{◌≡◌, sym, ap, ◌∙◌}
use mathlib.Core.Bool.{true}
use mathlib.Core.List.{List, ◌++◌, map}
use Prim.Native.Nat.{ℕ, ◌≤◌, ◌<◌, ◌^◌}
use native.Mathlib.Omega.{arith}
use borrow.Author.Tests.{le-leb}
use lib.Dec.{T, ltb, ltb→lt}
use lib.ListN.{length, get_or, drop, length-map, get_or-append}
use lib.Seq.{take-length}
use Rattle.lists.specs.Lists.{all, up_to}
use Rattle.lists.specs.Bits.{packed}
use Rattle.lists.specs.Written.{over}
use Rattle.lists.proofs.Lists.Mapped.{map-where, map-twice}
use Rattle.lists.proofs.Bools.{to-T}
use Rattle.lists.proofs.Lists.Membership.{all-at, get_d_map}
use Rattle.lists.proofs.Numbers.UpTo.{first-elements}
use Rattle.diagram.specs.Networks.Bound.{most_outputs}
use Rattle.diagram.specs.Orders.Order.{row_under}
use Rattle.table.specs.declared.State.{State}
use Rattle.table.specs.Answer.{value}
use Rattle.table.specs.State.{order_of, stage_of, is_network}
use Rattle.lent.specs.Lent.{lent_cells, roots_size}
use Rattle.lent.specs.Evaluate.{good_cells, row_outputs, evaluate_answer}
use Rattle.lent.specs.Rows.{rows_answer, rows_answers, EachAlone}
use Rattle.lent.proofs.Answered.{given_at, outputs-row, answer-done}

-- the answers written one by one are those of the rows
pub answers-all : (f : ℕ → ℕ) (rows answers : List ℕ) (i : ℕ) → i ≡ length rows
    → over (λ j. f (get_or rows j 0)) i answers ≡ map f rows ++ drop (length rows) answers
answers-all f rows answers i e =
    rw e
    (ap (λ (l : List ℕ). l ++ drop (length rows) answers)
    (sym
    (ap (map f) (sym (take-length rows) ∙ first-elements (length rows) rows (omega arith))
    ∙ map-twice f (λ j. get_or rows j 0) (up_to (length rows)))))

-- the outputs of each row, along the cells and by the lent diagram
pub rows-walked : (s : State) (rows roots cells : List ℕ)
    → map (λ row. packed s.m (given_at (lent_cells s.count cells) (row_under s.n (order_of s) row) s.n roots)) rows
    ≡ map (λ row. row_outputs s row roots cells) rows
rows-walked s rows roots cells = ap (λ (f : ℕ → ℕ). map f rows) (λ i row. outputs-row s row roots cells i)

-- where no test fails, each answer is the row's alone
module _ (s : State) (rows answers roots cells : List ℕ) (long : most_outputs ≤ length roots) (room : length rows ≤ length answers)
    (held : is_network (stage_of s) ≡ true) (known : all (λ row. ltb row (2 ^ s.n)) rows ≡ true) (good : good_cells s roots cells ≡ true) where
  alone : (row : ℕ) → T (ltb row (2 ^ s.n)) → evaluate_answer s row roots cells ≡ Ok (row_outputs s row roots cells)
  alone row t = answer-done s row roots cells long held (ltb→lt row (2 ^ s.n) t) good _ (sym (outputs-row s row roots cells))

  success : rows_answer s rows answers roots cells ≡ Ok 0
  unfolding rows_answer roots_size
  success = rw (le-leb most_outputs (length roots) long, le-leb (length rows) (length answers) room, held, known, good)

  -- all that a success promises, by what the rows give at the roots along the cells
  module _ (after : List ℕ) (walked : after
      ≡ map (λ row. packed s.m (given_at (lent_cells s.count cells) (row_under s.n (order_of s) row) s.n roots)) rows
      ++ drop (length rows) answers) where
    written : after ≡ map (λ row. row_outputs s row roots cells) rows ++ drop (length rows) answers
    written = walked ∙ ap (λ (l : List ℕ). l ++ drop (length rows) answers) (rows-walked s rows roots cells)

    answers-alone : after ≡ rows_answers s rows answers roots cells
    unfolding rows_answers
    answers-alone =
        rw success
        (written
        ∙ sym
        (ap (λ (l : List ℕ). l ++ drop (length rows) answers)
        (map-where (λ row. ltb row (2 ^ s.n)) (λ row. value (evaluate_answer s row roots cells)) (λ row. row_outputs s row roots cells) rows
        (to-T known) (λ row t. ap value (alone row t)))))

    at_row : (i : ℕ) → i < length rows → get_or after i 0 ≡ row_outputs s (get_or rows i 0) roots cells
    at_row i h =
        ap (λ (l : List ℕ). get_or l i 0) written
        ∙ get_or-append (map (λ row. row_outputs s row roots cells) rows) (drop (length rows) answers) 0 i
        (omega (arith, h, length-map rows (λ row. row_outputs s row roots cells)))
        ∙ get_d_map (λ row. row_outputs s row roots cells) rows i 0 0 h

    each-alone : EachAlone s rows roots cells after
    unfolding EachAlone
    each-alone i h = alone (get_or rows i 0) (all-at (λ row. ltb row (2 ^ s.n)) rows (to-T known) i 0 h) ∙ ap Ok (sym (at_row i h))

    pub rows-done : (Ok 0 ≡ rows_answer s rows answers roots cells)
        × (after ≡ rows_answers s rows answers roots cells) × EachAlone s rows roots cells after
    rows-done = (sym success, answers-alone, each-alone)
