-- What reading a network file answers, one test after the other, and what a success says.
-- Assumes nothing.
use Rattle.std.specs.Prelude.{Err}
use mathlib.Core.Path.{◌≡◌, sym, ap, ◌∙◌}
use mathlib.Core.Bool.{true, false, ◌&&◌, and-false}
use mathlib.Core.List.{List}
use Prim.Native.Nat.{ℕ, ◌/◌, ◌≤◌, ◌<◌}
use native.Mathlib.Omega.{arith}
use borrow.Author.Tests.{le-leb, lt-leb}
use lib.Dec.{leb, leb→le}
use lib.ListN.{length}
use Rattle.lists.proofs.Bools.{split, of_T, to-T, absurd-T, and_l, and_r}
use Rattle.table.specs.Answer.{Answer}
use Rattle.table.specs.declared.Refusal.TheVariants.{ShortBuffer, TooSmall}
use Rattle.table.specs.Answer.{done}
use Rattle.table.specs.Calls.{plane_size}
use Rattle.table.proofs.Variants.{refused-first, done-first}
use Rattle.table.proofs.Files.Accepted.{unless-done, both-done}
use Rattle.fill.specs.Work.{work_size}
use Rattle.lent.specs.Lent.{roots_size}
use Rattle.network.specs.Build.{capacity, long_enough}
use Rattle.network_file.specs.File.{file_count, network_file_answer}
use Rattle.network_file.specs.Read.{read_answer, clears_checked}
use Rattle.network_file.specs.Inner.Checked.{checked_answer, Readable}

-- 10, buffer by buffer

module _ (values care work roots : List ℕ) where
  pub short-values : length values < plane_size → false ≡ long_enough values care work roots
  short-values h = rw (lt-leb plane_size (length values) h)

  pub short-care : length care < plane_size → false ≡ long_enough values care work roots
  short-care h = rw (lt-leb plane_size (length care) h, and-false (leb plane_size (length values)))

  pub short-work : length work < work_size → false ≡ long_enough values care work roots
  short-work h =
      rw (lt-leb work_size (length work) h, and-false (leb plane_size (length care)), and-false (leb plane_size (length values)))

  pub by-roots : plane_size ≤ length values → plane_size ≤ length care → work_size ≤ length work
      → leb roots_size (length roots) ≡ long_enough values care work roots
  by-roots v c w = rw (le-leb plane_size (length values) v, le-leb plane_size (length care) c, le-leb work_size (length work) w)

  -- no buffer is short
  record Long : Type 0 where
    pub for-values : plane_size ≤ length values
    pub for-care : plane_size ≤ length care
    pub for-work : work_size ≤ length work
    pub for-roots : roots_size ≤ length roots

  all-long : long_enough values care work roots ≡ true → Long
  all-long e =
      let a = leb plane_size (length values) in
      let b = leb plane_size (length care) in
      let c = leb work_size (length work) in
      let d = leb roots_size (length roots) in
      let r = and_r a (b && (c && d)) (to-T e) in
      let s = and_r b (c && d) r in
      record {
        for-values = leb→le plane_size (length values) (and_l a (b && (c && d)) (to-T e));
        for-care = leb→le plane_size (length care) (and_l b (c && d) r);
        for-work = leb→le work_size (length work) (and_l c d s);
        for-roots = leb→le roots_size (length roots) (and_r c d s);
      }

module _ (file values care work roots cells : List ℕ) where
  pub short : long_enough values care work roots ≡ false → Err ShortBuffer ≡ read_answer file values care work roots cells
  unfolding read_answer
  short e = rw e

  module _ (long : long_enough values care work roots ≡ true) where
    pub file-refused : (x : Answer) → x ≡ network_file_answer file → done x ≡ false → x ≡ read_answer file values care work roots cells
    unfolding read_answer
    file-refused x e d = rw long (e ∙ sym (refused-first (network_file_answer file) _ (sym (ap done e) ∙ d)))

    module _ (accepted : done (network_file_answer file) ≡ true) where
      pub small-board : (count : ℕ) → count ≡ file_count file → capacity cells < count
          → Err (TooSmall count) ≡ read_answer file values care work roots cells
      unfolding read_answer
      small-board count e h =
          rw long (sym (done-first (network_file_answer file) _ accepted ∙ rw (← e, lt-leb count (length cells / 3) h)))

      pub last-tests : file_count file ≤ capacity cells → checked_answer file ≡ read_answer file values care work roots cells
      unfolding read_answer checked_answer
      last-tests h =
          rw long (sym (done-first (network_file_answer file) _ accepted ∙ rw (le-leb (file_count file) (length cells / 3) h)))

  -- a success passed every test
  pub success : done (read_answer file values care work roots cells) ≡ true → Readable file values care roots cells
  unfolding read_answer checked_answer
  success e =
      let u = unless-done (long_enough values care work roots) ShortBuffer _ (to-T e) in
      let v = both-done (network_file_answer file) _ u.1 in
      let w = unless-done (leb (file_count file) (capacity cells)) (TooSmall (file_count file)) _ v.1 in
      let l = all-long values care work roots (of_T u.0) in
      let h = leb→le (file_count file) (capacity cells) w.0 in
      record {
        accepted = of_T v.0;
        checked = of_T w.1;
        values-room = l.for-values;
        care-room = l.for-care;
        roots-room = l.for-roots;
        cells-room = omega (arith, h);
      }

  -- an answer that clears the work buffer comes after 10
  pub work-long : clears_checked (read_answer file values care work roots cells) ≡ true → work_size ≤ length work
  work-long e =
      split (long_enough values care work roots) (λ q. (all-long values care work roots q).for-work)
      (λ q. absurd-T {b = true} tt (sym e ∙ ap clears_checked (sym (short q))))
