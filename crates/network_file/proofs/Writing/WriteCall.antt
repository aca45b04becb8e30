-- What writing a network file answers and leaves, by the test that led there, and what a success says of the state.
-- Assumes nothing.
use Rattle.std.specs.Prelude.{Err}
use mathlib.Core.Path.{◌≡◌}
use mathlib.Core.Bool.{true, false, cond, ◌&&◌, and-false}
use mathlib.Core.List.{List}
use Prim.Native.Nat.{ℕ, suc, ◌*◌, ◌≤◌, ◌<◌}
use native.Mathlib.Omega.{arith}
use borrow.Author.Tests.{le-leb, lt-leb}
use lib.Dec.{leb, leb→le}
use lib.ListN.{length}
use Rattle.lists.specs.Written.{over}
use Rattle.lists.proofs.Bools.{to-T, and_r}
use Rattle.block.specs.Block.{block_size}
use Rattle.table.specs.Answer.{Answer}
use Rattle.table.specs.declared.Refusal.TheVariants.{ShortBuffer}
use Rattle.table.specs.declared.State.{State}
use Rattle.table.specs.Answer.{done}
use Rattle.table.proofs.Files.Accepted.{unless-done}
use Rattle.table.proofs.Held.{few-inputs, few-outputs, ordered}
use Rattle.fill.specs.Work.{work_size, cleared_work}
use Rattle.lent.specs.Lent.{roots_size}
use Rattle.canonical.specs.Canonical.{canonical_answer}
use Rattle.canonical.proofs.Answered.{Success, success}
use Rattle.network_file.specs.File.{cell_blocks}
use Rattle.network_file.specs.Read.{clears_checked}
use Rattle.network_file.specs.Write.{file_size, file_byte, write_answer, write_work, written_file}
use Rattle.network_file.specs.Inner.Writable.{Writable}
use Rattle.network_file.proofs.Format.FileSizes.{file-size, cell-blocks-most}
use Rattle.network_file.proofs.WorkLeft.{work-left}

-- cells that pass the tests of a network are written: the file has room for every number
pub writable : (s : State) (roots cells : List ℕ) → Success s roots cells → Writable s
writable s roots cells p =
    record {
      inputs = few-inputs s p.held;
      outputs = few-outputs s p.held;
      ordered = ordered s p.held;
      counted = p.few;
    }

module _ (s : State) (roots cells work file : List ℕ) where
  -- a success passed those tests
  pub network-passed : done (write_answer s roots cells work file) ≡ true → Success s roots cells
  unfolding write_answer
  network-passed e =
      success s roots cells
      (unless-done (leb roots_size (length roots) && (leb work_size (length work) && leb file_size (length file))) ShortBuffer
      (canonical_answer s roots cells) (to-T e)).1

  -- and the file has room for its blocks
  pub file-fits : done (write_answer s roots cells work file) ≡ true → block_size * suc (cell_blocks s.count) ≤ length file
  unfolding write_answer
  file-fits e =
      let p = unless-done (leb roots_size (length roots) && (leb work_size (length work) && leb file_size (length file))) ShortBuffer
      (canonical_answer s roots cells) (to-T e) in
      let q = and_r (leb roots_size (length roots)) (leb work_size (length work) && leb file_size (length file)) p.0 in
      omega (
        arith,
        leb→le file_size (length file) (and_r (leb work_size (length work)) (leb file_size (length file)) q),
        file-size,
        cell-blocks-most s.count (success s roots cells p.1).few,
      )

  -- the answer, and the work buffer and the file after the call
  abbrev pub Ended : Answer → List ℕ → List ℕ → Type 0
  Ended a work' file' =
      (a ≡ write_answer s roots cells work file)
      × ((work' ≡ write_work s roots cells work file) × (file' ≡ written_file s roots cells work file))

  -- 10
  not-enough : leb roots_size (length roots) && (leb work_size (length work) && leb file_size (length file)) ≡ false
      → Ended (Err ShortBuffer) work file
  unfolding write_answer write_work written_file
  not-enough e = (rw e, (rw e, rw e))

  pub short-roots : length roots < roots_size → Ended (Err ShortBuffer) work file
  short-roots h = not-enough (rw (lt-leb roots_size (length roots) h))

  pub short-work : length work < work_size → Ended (Err ShortBuffer) work file
  short-work h = not-enough (rw (lt-leb work_size (length work) h) (and-false (leb roots_size (length roots))))

  pub short-file : length file < file_size → Ended (Err ShortBuffer) work file
  short-file h =
      not-enough
      (rw (lt-leb file_size (length file) h, and-false (leb work_size (length work))) (and-false (leb roots_size (length roots))))

  module _ (r : roots_size ≤ length roots) (w : work_size ≤ length work) (f : file_size ≤ length file) (a : Answer)
      (e : a ≡ canonical_answer s roots cells) where
    pub answered : a ≡ write_answer s roots cells work file
    unfolding write_answer
    answered = rw (le-leb roots_size (length roots) r, le-leb work_size (length work) w, le-leb file_size (length file) f) e

    module _ (after : List ℕ) (q : after ≡ cond (clears_checked a) (cleared_work work) work) where
      work-after : after ≡ write_work s roots cells work file
      unfolding write_work
      work-after = work-left a (write_answer s roots cells work file) work after answered (λ t. w) q

      -- 22, 24 and 32
      pub refused : done a ≡ false → Ended a after file
      unfolding written_file
      refused d = (answered, (work-after, rw (← answered, d)))

      pub succeeded : done a ≡ true → (written : List ℕ)
          → written ≡ over (file_byte s roots cells) (block_size * suc (cell_blocks s.count)) file → Ended a after written
      unfolding written_file
      succeeded d written g = (answered, (work-after, rw (← answered, d) g))
