-- The work buffer after a call that clears it by its answer: zero, or as it was.
-- Assumes nothing.
use mathlib.Core.Path.{◌≡◌, refl, sym, ap, ◌∙◌}
use mathlib.Core.Bool.{true, cond}
use mathlib.Core.List.{List}
use Prim.Native.Nat.{ℕ, ◌≤◌}
use lib.ListN.{length}
use Rattle.lists.proofs.Bools.{split}
use Rattle.table.specs.Answer.{Answer}
use Rattle.fill.specs.Work.{work_size, zero_work, cleared_work}
use Rattle.fill.proofs.Calls.Answers.{cleared-zero}
use Rattle.network_file.specs.Read.{clears_checked}

-- x is the answer as it was computed, y as it is specified; one that clears comes after the test of the buffer's size
pub work-left : (x y : Answer) (work after : List ℕ) → x ≡ y → (clears_checked y ≡ true → work_size ≤ length work)
    → after ≡ cond (clears_checked x) (cleared_work work) work → after ≡ cond (clears_checked y) (zero_work work) work
work-left x y work after e long q =
    split (clears_checked y)
    (λ t. rw t (q ∙ rw (ap clears_checked e ∙ t) (sym (cleared-zero work (zero_work work) (long t) refl))))
    (λ t. rw t (q ∙ rw (ap clears_checked e ∙ t)))
