-- The outcome of a report of all moves by what it is refused for, and what it owes where it isn't.
-- Assumes nothing.
use Rattle.std.specs.Prelude.{Ok, Err}
use mathlib.Core.Path.{◌≡◌, refl, sym, ap, ap₂, ◌∙◌, subst}
use mathlib.Core.Bool.{true, false, not}
use mathlib.Core.List.{List}
use Prim.Native.Nat.{ℕ, ◌+◌, ◌*◌, ◌≤◌, ◌<◌}
use native.Mathlib.Omega.{arith}
use borrow.Author.Tests.{lt-ltb, le-leb, lt-leb}
use lib.Dec.{eqb, leb}
use lib.IntN.{ℤ, pos, neg_ℤ, ◌-ℤ◌}
use lib.ListN.{length}
use lib.Signed.{◌≤ℤ◌}
use Rattle.lists.specs.Lists.{index}
use Rattle.lists.specs.Written.{over}
use Rattle.lists.proofs.Bools.{to-T, absurd-T}
use Rattle.lists.proofs.Written.Over.{get_d_over}
use Rattle.diagram.specs.Orders.Moves.{gain, gain_at, Smallest, MovedLeast}
use Rattle.diagram.specs.Table.{Table, cost}
use Rattle.diagram.specs.Orders.Sift.{sift}
use Rattle.diagram.proofs.Orders.Order.{index_below}
use Rattle.diagram.proofs.Orders.Moves.{gain-entry, gain-stays, gain-smallest, gain-lowest, moved-least}
use Rattle.table.specs.Answer.{Answer}
use Rattle.table.specs.declared.Refusal.TheVariants.{ShortBuffer, NoTable, ShortGains}
use Rattle.table.specs.declared.State.{State}
use Rattle.table.specs.Answer.{value, done}
use Rattle.table.specs.State.{order_of, stage_of, is_nothing}
use Rattle.table.proofs.Held.{held-heading, heading-order}
use Rattle.fill.specs.Work.{zero_work}
use Rattle.fill.specs.Calls.{held_table, enough}
use Rattle.sift.specs.Calls.{sift_answer}
use Rattle.sift.specs.Moves.{moves_answer, moves_gains, moves_work, entry, cells_now, Reported}
use Rattle.sift.proofs.Trying.CountSucceeds.{count-done}
use Rattle.sift.proofs.Reporting.Report.{row_room}

-- an answer, a list and a work buffer are those of a report
abbrev pub Reports : State → List ℤ → List ℕ → List ℕ → List ℕ → Answer → List ℤ → List ℕ → Type 0
Reports s gains values care work r left after =
    (r ≡ moves_answer s gains values care work)
    × ((left ≡ moves_gains s gains values care work)
    × ((after ≡ moves_work s gains values care work) × (done r ≡ true → Reported s values care work left)))

module _ (s : State) (gains : List ℤ) (values care work : List ℕ) where
  pub moves-short : enough values care work ≡ false → Reports s gains values care work (Err ShortBuffer) gains work
  unfolding moves_answer moves_gains moves_work
  moves-short e = (rw e, (rw e, (rw e, λ d. absurd-T (to-T d) refl)))

  pub moves-no-table : enough values care work ≡ true → not (is_nothing (stage_of s)) ≡ false
      → Reports s gains values care work (Err NoTable) gains work
  unfolding moves_answer moves_gains moves_work
  moves-no-table e h = (rw (e, h), (rw (e, h), (rw (e, h), λ d. absurd-T (to-T d) refl)))

  module _ (e : enough values care work ≡ true) (h : not (is_nothing (stage_of s)) ≡ true) where
    pub moves-few : length gains < s.n * s.n → Reports s gains values care work (Err ShortGains) gains work
    unfolding moves_answer moves_gains moves_work
    moves-few l =
        let f : leb (s.n * s.n) (length gains) ≡ false = lt-leb (s.n * s.n) (length gains) l in
        (rw (e, h, f), (rw (e, h, f), (rw (e, h, f), λ d. absurd-T (to-T d) refl)))

    abbrev t : Table
    t = held_table s values care

    abbrev order : List ℕ
    order = order_of s

    now-counted : cells_now s values care work ≡ cost t order
    now-counted = ap value (count-done s values care work (to-T e) (to-T h))

    sift-answered : (v : ℕ) → v < s.n → value (sift_answer s v values care work) ≡ cost t (sift t v order)
    unfolding sift_answer
    sift-answered v l = rw (e, h, lt-ltb v s.n l)

    module _ (left : List ℤ) (d : left ≡ over (gain_at t order) (s.n * s.n) gains) where
      -- an entry is what its move brings
      entry-gain : (v p : ℕ) → v < s.n → p < s.n → entry s left v p ≡ gain t order v p
      entry-gain v p l i =
          ap (λ (xs : List ℤ). entry s xs v p) d
          ∙ get_d_over (gain_at t order) (s.n * s.n) gains (s.n * v + p) (pos 0) (omega (arith, row_room s.n v l))
          ∙ gain-entry t order v p i

      smallest : (v : ℕ) → v < s.n
          → Smallest s.n (entry s left v) (pos (value (sift_answer s v values care work)) -ℤ pos (cells_now s values care work))
      smallest v l =
          let m = gain-smallest t order v l in
          let z : pos (value (sift_answer s v values care work)) -ℤ pos (cells_now s values care work)
          ≡ pos (cost t (sift t v order)) -ℤ pos (cost t order) =
          ap₂ (λ (x y : ℕ). pos x -ℤ pos y) (sift-answered v l) now-counted in
          record {
            at = m.at;
            below = m.below;
            there = entry-gain v m.at l m.below ∙ m.there ∙ sym z;
            least = λ p i. subst (λ (x : ℤ). x ≤ℤ entry s left v p) (sym z)
                (subst (λ (y : ℤ). (pos (cost t (sift t v order)) -ℤ pos (cost t order)) ≤ℤ y) (sym (entry-gain v p l i)) (m.least p i));
          }

      reported : Reported s values care work left
      reported =
          let o = heading-order s.n s.m order (held-heading s (to-T h)) in
          record {
            stays = λ v l. entry-gain v (index eqb v order) l (index_below s.n order o v l) ∙ gain-stays t order o v l;
            smallest = smallest;
            lowest = λ v p l i. subst (λ (c : ℕ). neg_ℤ (pos c) ≤ℤ entry s left v p) (sym now-counted)
                (subst (λ (y : ℤ). neg_ℤ (pos (cost t order)) ≤ℤ y) (sym (entry-gain v p l i)) (gain-lowest t order v p));
            least = λ v p l i. subst (MovedLeast t order v p) (sym (entry-gain v p l i)) (moved-least t order o v p l);
          }

      pub moves-done : s.n * s.n ≤ length gains → (after : List ℕ) → after ≡ zero_work work
          → Reports s gains values care work (Ok 0) left after
      unfolding moves_answer moves_gains moves_work
      moves-done l after z =
          let f : leb (s.n * s.n) (length gains) ≡ true = le-leb (s.n * s.n) (length gains) l in
          (rw (e, h, f), (rw (e, h, f) d, (rw (e, h, f) z, λ _. reported)))
