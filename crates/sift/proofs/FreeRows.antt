-- Section 3 of document 01, 'Value bits of free rows never matter', of a sift, a pass and a report of all moves: two lents that agree on the
-- care bits of the stream, and on its value bits where they are cared, have one outcome and leave the same.
-- Assumes nothing.
use Rattle.std.specs.Prelude.{Ok}
use mathlib.Core.Path.{◌≡◌, refl, ap, ap₂, ◌∙◌}
use mathlib.Core.Bool.{Bool, cond, not}
use mathlib.Core.List.{List}
use Prim.Native.Nat.{ℕ, ◌*◌, ◌^◌}
use lib.Dec.{ltb}
use lib.IntN.{ℤ}
use Rattle.lists.specs.Written.{over}
use Rattle.diagram.specs.Table.{Table, cost}
use Rattle.diagram.specs.Orders.Sift.{Pass}
use Rattle.diagram.proofs.Filling.FreeRows.{Alike, cost-alike, sift-alike, pass-alike, gains-alike}
use Rattle.table.specs.Answer.{Answer}
use Rattle.table.specs.declared.Refusal.TheVariants.{NoSuch, ShortBuffer, NoTable}
use Rattle.table.specs.declared.State.{State}
use Rattle.table.specs.Answer.{unless, done, outcome_of}
use Rattle.table.specs.State.{order_of, stage_of, is_nothing}
use Rattle.fill.specs.Work.{zero_work}
use Rattle.fill.specs.Calls.{held_table, enough}
use Rattle.fill.proofs.Calls.FreeRows.{AlikeBits, held-alike}
use Rattle.sift.specs.Calls.{sifted_order, sift_answer, sift_outcome, sift_work, pass_of, pass_answer, pass_outcome, pass_work, with_order}
use Rattle.sift.specs.Moves.{moves_answer, moves_gains, moves_work}

module _ (s : State) (values care values' care' work : List ℕ) (alike : AlikeBits (s.m * 2 ^ s.n) values care values' care')
    (room : enough values care work ≡ enough values' care' work) where
  abbrev t : Table
  t = held_table s values care

  abbrev u : Table
  u = held_table s values' care'

  same : Alike t u
  same = held-alike s values care values' care' alike

  -- what is answered behind 10 and 21
  answers : (a b : Answer) → a ≡ b → unless (enough values care work) ShortBuffer (unless (not (is_nothing (stage_of s))) NoTable a)
      ≡ unless (enough values' care' work) ShortBuffer (unless (not (is_nothing (stage_of s))) NoTable b)
  answers a b e =
      ap₂ (λ (l : Bool) (x : Answer). unless l ShortBuffer (unless (not (is_nothing (stage_of s))) NoTable x)) room e

  -- a single sift of v
  module _ (v : ℕ) where
    sifted-alike : sifted_order s v values care ≡ sifted_order s v values' care'
    sifted-alike = sift-alike t u same v (order_of s)

    sift-answer : sift_answer s v values care work ≡ sift_answer s v values' care' work
    unfolding sift_answer
    sift-answer =
        answers _ _
        (ap (λ (c : ℕ). unless (ltb v s.n) NoSuch (Ok c))
        (ap (cost t) sifted-alike ∙ cost-alike t u same (sifted_order s v values' care')))

    pub sift-outcome : sift_outcome s v values care work ≡ sift_outcome s v values' care' work
    unfolding sift_outcome
    sift-outcome =
        λ i. outcome_of (sift-answer i) (with_order s (sifted-alike i))

    pub sift-work : sift_work s v values care work ≡ sift_work s v values' care' work
    unfolding sift_work
    sift-work = ap (λ (a : Answer). cond (done a) (zero_work work) work) sift-answer

  -- a pass under a limit
  module _ (limit : ℕ) where
    passed-alike : pass_of s limit values care ≡ pass_of s limit values' care'
    passed-alike = pass-alike t u same limit (order_of s)

    pass-answer : pass_answer s limit values care work ≡ pass_answer s limit values' care' work
    unfolding pass_answer
    pass-answer = answers _ _ (ap (λ (p : Pass). Ok p.tried) passed-alike)

    pub pass-outcome : pass_outcome s limit values care work ≡ pass_outcome s limit values' care' work
    unfolding pass_outcome
    pass-outcome =
        λ i. outcome_of (pass-answer i) (with_order s (passed-alike i).order)

    pub pass-work : pass_work s limit values care work ≡ pass_work s limit values' care' work
    unfolding pass_work
    pass-work = ap (λ (a : Answer). cond (done a) (zero_work work) work) pass-answer

  -- a report of all moves
  module _ (gains : List ℤ) where
    pub moves-answer : moves_answer s gains values care work ≡ moves_answer s gains values' care' work
    unfolding moves_answer
    moves-answer = answers _ _ refl

    pub moves-gains : moves_gains s gains values care work ≡ moves_gains s gains values' care' work
    unfolding moves_gains
    moves-gains =
        λ i. cond (done (moves-answer i)) (over (λ e. gains-alike t u same (order_of s) e i) (s.n * s.n) gains) gains

    pub moves-work : moves_work s gains values care work ≡ moves_work s gains values' care' work
    unfolding moves_work
    moves-work = ap (λ (a : Answer). cond (done a) (zero_work work) work) moves-answer
