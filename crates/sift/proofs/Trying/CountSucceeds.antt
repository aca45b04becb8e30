-- What a count answers and leaves where the buffers are long enough and a table is held; and that trials leave a work buffer zero.
-- Assumes nothing.
use Rattle.std.specs.Prelude.{Result, Ok, is_ok}
use mathlib.Core.Path.{◌≡◌, sym, ap, ◌∙◌, subst}
use mathlib.Core.Bool.{true, not, ◌&&◌}
use mathlib.Core.List.{List}
use Prim.Native.Nat.{ℕ}
use lib.Dec.{T, leb}
use lib.ListN.{length}
use Rattle.lists.proofs.Bools.{of_T}
use Rattle.diagram.specs.Table.{cost}
use Rattle.table.specs.declared.State.{State}
use Rattle.table.specs.declared.Refusal.{Refusal}
use Rattle.table.specs.State.{order_of, stage_of, is_nothing}
use Rattle.table.specs.Calls.{plane_size}
use Rattle.fill.specs.Work.{work_size, trials_zero, zero_work}
use Rattle.fill.specs.declared.Levels.{Levels}
use Rattle.fill.specs.Calls.{held_table, enough, count_answer, count_work, filled_levels, levels_of}
use Rattle.fill.proofs.Calls.Answers.{levels-done}
use Rattle.fill.proofs.Calls.TriedCounts.{trials-zeroed}
use Rattle.sift.specs.Inner.Counts.{counts_under}

module _ (s : State) (values care work : List ℕ) (e : T (enough values care work)) (held : T (not (is_nothing (stage_of s)))) where
  pub count-done : count_answer s values care work ≡ Ok (cost (held_table s values care) (order_of s))
  unfolding count_answer
  count-done =
      let b : enough values care work ≡ true = of_T e in
      let t : not (is_nothing (stage_of s)) ≡ true = of_T held in
      rw (b, t)

  pub counted-work : count_work s values care work ≡ zero_work work
  unfolding count_work
  counted-work = rw count-done

  pub counted-levels : levels_of s values care work ≡ Ok (filled_levels s values care)
  unfolding levels_of
  counted-levels = rw count-done

  pub levels-counted : (r : Result Levels Refusal) → r ≡ levels_of s values care work → is_ok r ≡ true
  levels-counted r e = ap is_ok (e ∙ counted-levels)

  -- of the levels k that a count answers
  module _ (k : Levels) (d : levels_of s values care work ≡ Ok k) where
    filled-levels : k ≡ filled_levels s values care
    filled-levels = (levels-done s values care work k d).0

    pub counted-counts : k.counts ≡ counts_under (held_table s values care) (order_of s)
    unfolding filled_levels counts_under
    counted-counts = ap (λ (x : Levels). x.counts) filled-levels

    pub counted-cost : k.cells ≡ cost (held_table s values care) (order_of s)
    unfolding filled_levels
    counted-cost = ap (λ (x : Levels). x.cells) filled-levels

-- a work buffer that is as long as before is long enough again
pub enough-again : (values care work after : List ℕ) → T (enough values care work) → length after ≡ length work
    → T (enough values care after)
enough-again values care work after e l =
    subst (λ (n : ℕ). T (leb plane_size (length values) && (leb plane_size (length care) && leb work_size n))) (sym l) e

-- what a count left zero is zero after trials
pub zero-still : (work zeroed after : List ℕ) → zeroed ≡ zero_work work → after ≡ trials_zero zeroed → after ≡ zero_work work
zero-still work zeroed after d e = e ∙ ap trials_zero d ∙ trials-zeroed work
