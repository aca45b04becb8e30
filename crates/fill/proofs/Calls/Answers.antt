-- What the calls answer and leave, by the test that led there.
-- Assumes nothing.
use Rattle.std.specs.Prelude.{Ok, Err}
use mathlib.Core.Path.{◌≡◌, refl, sym, ap, ◌∙◌}
use mathlib.Core.Bool.{Bool, true, false, not, ◌&&◌, false≢true, and-false}
use mathlib.Core.List.{List}
use Prim.Native.Nat.{ℕ, ◌*◌, ◌≤◌, ◌<◌}
use borrow.Author.Tests.{le-leb, lt-leb}
use lib.Dec.{T, leb, leb→le}
use lib.ListN.{length, replicate}
use Rattle.lists.specs.Written.{splice}
use Rattle.lists.proofs.Bools.{split, to-T, and_r}
use Rattle.diagram.specs.Table.{cost}
use Rattle.table.specs.declared.Refusal.{Refusal}
use Rattle.table.specs.declared.Refusal.TheVariants.{ShortBuffer, NoTable}
use Rattle.table.specs.declared.State.{State}
use Rattle.table.specs.Answer.{done}
use Rattle.table.specs.State.{order_of, stage_of, is_nothing}
use Rattle.table.proofs.Variants.{refusal-first, success-first}
use Rattle.table.specs.Calls.{plane_size}
use Rattle.fill.specs.declared.Levels.{Levels}
use Rattle.fill.specs.Work.{work_size, links_at, zero_work, cleared_work}
use Rattle.fill.specs.Calls.{held_table, enough, count_answer, count_work, filled_levels, levels_of, links_work}
use Rattle.fill.specs.Inner.Filling.{filled_work}
use Rattle.fill.proofs.Room.LinksRoom.{links_limit}
use Rattle.fill.proofs.Calls.HeldFilling.{links-gone}

-- whether the buffers have their sizes
module _ (values care work : List ℕ) where
  pub few-values : length values < plane_size → enough values care work ≡ false
  few-values h = rw (lt-leb plane_size (length values) h)

  pub few-care : length care < plane_size → enough values care work ≡ false
  few-care h = rw (lt-leb plane_size (length care) h) (and-false (leb plane_size (length values)))

  pub few-work : length work < work_size → enough values care work ≡ false
  few-work h =
      rw (lt-leb work_size (length work) h)
      (ap (λ (b : Bool). leb plane_size (length values) && b) (and-false (leb plane_size (length care))) ∙ and-false
      (leb plane_size (length values)))

  pub is-enough : plane_size ≤ length values → plane_size ≤ length care → work_size ≤ length work → enough values care work ≡ true
  is-enough v c w = rw (le-leb plane_size (length values) v, le-leb plane_size (length care) c, le-leb work_size (length work) w)

module _ (s : State) (values care work : List ℕ) where
  -- the answer

  not-enough : enough values care work ≡ false → count_answer s values care work ≡ Err ShortBuffer
  unfolding count_answer
  not-enough e = rw e

  pub short-values : length values < plane_size → count_answer s values care work ≡ Err ShortBuffer
  short-values h = not-enough (few-values values care work h)

  pub short-care : length care < plane_size → count_answer s values care work ≡ Err ShortBuffer
  short-care h = not-enough (few-care values care work h)

  pub short-work : length work < work_size → count_answer s values care work ≡ Err ShortBuffer
  short-work h = not-enough (few-work values care work h)

  module _ (v : plane_size ≤ length values) (c : plane_size ≤ length care) (w : work_size ≤ length work) where
    pub no_table : not (is_nothing (stage_of s)) ≡ false → count_answer s values care work ≡ Err NoTable
    unfolding count_answer
    no_table e = rw (is-enough values care work v c w, e)

    pub counted : not (is_nothing (stage_of s)) ≡ true → count_answer s values care work ≡ Ok (cost (held_table s values care) (order_of s))
    unfolding count_answer
    counted e = rw (is-enough values care work v c w, e)

    -- a held table is filled
    pub links-filled : not (is_nothing (stage_of s)) ≡ true
        → (Ok (filled_levels s values care) ≡ levels_of s values care work) × (filled_work s values care work ≡ links_work s values care work)
    unfolding filled_work levels_of links_work
    links-filled e = let a = counted e in rw a (refl, refl)

  -- a refusal leaves the work buffer
  pub links-refused : (r : Refusal) → count_answer s values care work ≡ Err r
      → (Err r ≡ levels_of s values care work) × (work ≡ links_work s values care work)
  unfolding levels_of links_work
  links-refused r e = rw e (refl, refl)

-- a work buffer made zero

pub cleared-short : (work : List ℕ) → length work < work_size → work ≡ cleared_work work
unfolding cleared_work work_size
cleared-short work h = rw (lt-leb work_size (length work) h)

pub cleared-zero : (work m : List ℕ) → work_size ≤ length work → m ≡ zero_work work → m ≡ cleared_work work
unfolding cleared_work work_size
cleared-zero work m h e = rw (le-leb work_size (length work) h) e

-- the work buffer after a count, by the answer

pub levels-refused : (s : State) (values care work : List ℕ) (r : Refusal) → levels_of s values care work ≡ Err r
    → count_answer s values care work ≡ Err r
unfolding levels_of
levels-refused s values care work r e = refusal-first (count_answer s values care work) (filled_levels s values care) r e

pub count-refused : (s : State) (values care work m : List ℕ) (r : Refusal) → count_answer s values care work ≡ Err r
    → m ≡ links_work s values care work
    → m ≡ count_work s values care work
unfolding links_work count_work
count-refused s values care work m r d e = e ∙ (rw d)

-- a success: the table was held, and the work buffer had its size
pub done_held : (s : State) (values care work : List ℕ) → done (count_answer s values care work) ≡ true
    → (work_size ≤ length work) × T (not (is_nothing (stage_of s)))
unfolding count_answer work_size
done_held s values care work d =
    split (enough values care work)
    (λ e. split (not (is_nothing (stage_of s)))
    (λ h. let a = leb plane_size (length values) in
    let b = leb plane_size (length care) in
    let c = leb work_size (length work) in
    (leb→le work_size (length work) (and_r b c (and_r a (b && c) (to-T e))), to-T h))
    (λ h. absurd (false≢true (rw (e, h) at d))))
    (λ e. absurd (false≢true (rw e at d)))

done-count : (s : State) (values care work : List ℕ) → done (count_answer s values care work) ≡ true
    → count_answer s values care work ≡ Ok (cost (held_table s values care) (order_of s))
unfolding count_answer
done-count s values care work d =
    split (enough values care work)
    (λ e. split (not (is_nothing (stage_of s))) (λ h. rw (e, h)) (λ h. absurd (false≢true (rw (e, h) at d))))
    (λ e. absurd (false≢true (rw e at d)))

-- the levels are those of the filling, with the cells that the count answers
pub levels-done : (s : State) (values care work : List ℕ) (k : Levels) → levels_of s values care work ≡ Ok k
    → (k ≡ filled_levels s values care) × (count_answer s values care work ≡ Ok k.cells)
unfolding levels_of filled_levels
levels-done s values care work k e =
    let (d, f) = success-first (count_answer s values care work) (filled_levels s values care) k e in
    (sym f, done-count s values care work d ∙ ap (λ (l : Levels). Ok l.cells) f)

pub count-cleared : (s : State) (values care work m m' : List ℕ) → done (count_answer s values care work) ≡ true
    → m ≡ links_work s values care work → m' ≡ splice m links_at (replicate (2 * links_limit) 0) → m' ≡ count_work s values care work
unfolding links_work count_work filled_work
count-cleared s values care work m m' d e q =
    let (big, held) = done_held s values care work d in
    let f : m ≡ filled_work s values care work = rw d at e in
    q
    ∙ ap (λ (y : List ℕ). splice y links_at (replicate (2 * links_limit) 0)) f
    ∙ links-gone s values care held work big
    ∙ (rw d)
