-- What trials answer and leave, by the test that led there.
-- Assumes nothing.
use Rattle.std.specs.Prelude.{Ok, Err}
use mathlib.Core.Path.{◌≡◌, refl, ap, ap₂, ◌∙◌}
use mathlib.Core.Bool.{true, false, not, ◌&&◌, and-false}
use mathlib.Core.List.{List, ◌++◌}
use Prim.Native.Nat.{ℕ, ◌≤◌, ◌<◌}
use native.Mathlib.Nat.{zero-add}
use borrow.Author.Tests.{le-leb, lt-leb}
use lib.Dec.{leb}
use lib.ListN.{length, drop, replicate, length-replicate}
use Rattle.lists.specs.Written.{splice}
use Rattle.table.specs.Answer.{Answer}
use Rattle.table.specs.declared.Refusal.TheVariants.{ShortBuffer, NoTable}
use Rattle.table.specs.declared.State.{State}
use Rattle.table.specs.Answer.{done}
use Rattle.table.specs.State.{stage_of, is_nothing}
use Rattle.table.specs.Calls.{plane_size}
use Rattle.fill.specs.Work.{work_size, trials_size, trials_zero}
use Rattle.fill.specs.Calls.{enough, counts_size, tried_counts, trials_answer, trials_counts, trials_work}
use Rattle.fill.proofs.Calls.Answers.{few-values, few-care, few-work, is-enough}

-- the bytes that trials use, made zero
pub trials-zero : (n : ℕ) (work m m' : List ℕ) → n ≡ trials_size → drop trials_size m ≡ drop trials_size work
    → m' ≡ splice m 0 (replicate n 0) → m' ≡ trials_zero work
unfolding splice trials_zero
trials-zero n work m m' e past q =
    q
    ∙ ap (λ (k : ℕ). replicate n 0 ++ drop k m) (zero-add (length {A = ℕ} (replicate n 0)) ∙ length-replicate n 0)
    ∙ ap (λ (k : ℕ). replicate k 0 ++ drop k m) e
    ∙ ap (λ (y : List ℕ). replicate trials_size 0 ++ y) past

module _ (s : State) (except : ℕ) (values care found work : List ℕ) where
  not-enough : enough values care work ≡ false → trials_answer s values care found work ≡ Err ShortBuffer
  unfolding trials_answer
  not-enough e = rw e

  pub trials-values : length values < plane_size → trials_answer s values care found work ≡ Err ShortBuffer
  trials-values h = not-enough (few-values values care work h)

  pub trials-care : length care < plane_size → trials_answer s values care found work ≡ Err ShortBuffer
  trials-care h = not-enough (few-care values care work h)

  pub trials-work : length work < work_size → trials_answer s values care found work ≡ Err ShortBuffer
  trials-work h = not-enough (few-work values care work h)

  pub trials-counts : length found < counts_size → trials_answer s values care found work ≡ Err ShortBuffer
  unfolding trials_answer
  trials-counts h = rw (lt-leb counts_size (length found) h, and-false (enough values care work))

  module _ (v : plane_size ≤ length values) (c : plane_size ≤ length care) (w : work_size ≤ length work) (f : counts_size ≤ length found) where
    both : (enough values care work && leb counts_size (length found)) ≡ true
    both = ap₂ ◌&&◌ (is-enough values care work v c w) (le-leb counts_size (length found) f)

    pub trials-none : not (is_nothing (stage_of s)) ≡ false → trials_answer s values care found work ≡ Err NoTable
    unfolding trials_answer
    trials-none e = rw (both, e)

    pub trials-done : not (is_nothing (stage_of s)) ≡ true → trials_answer s values care found work ≡ Ok s.n
    unfolding trials_answer
    trials-done e = rw (both, e)

  -- a refusal leaves the lent buffers
  pub trials-refused : (a : Answer) → trials_answer s values care found work ≡ a → done a ≡ false
      → (a ≡ trials_answer s values care found work)
      × ((found ≡ trials_counts s except values care found work) × (work ≡ trials_work s values care found work))
  unfolding trials_counts trials_work
  trials-refused a e d = rw (e, d) (refl, (refl, refl))

  pub trials-tried : trials_answer s values care found work ≡ Ok s.n
      → (Ok s.n ≡ trials_answer s values care found work)
      × ((tried_counts s except values care found s.n ≡ trials_counts s except values care found work)
      × (trials_zero work ≡ trials_work s values care found work))
  unfolding trials_counts trials_work
  trials-tried e = rw e (refl, (refl, refl))
