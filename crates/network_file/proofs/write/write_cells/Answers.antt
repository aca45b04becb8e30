-- `network_file::write::write_cells` meets its contract: each return by the tests that led there.
-- Assumes nothing.
use mathlib.Core.Path.{sym, ap, ◌∙◌}
use Prim.Native.Nat.{◌≤◌}
use native.Mathlib.Omega.{arith}
use lib.ListN.{length}
use Rattle.lists.proofs.Bools.{to-T}
use Rattle.table.specs.Answer.{done}
use Rattle.fill.specs.Work.{work_size}
use Rattle.fill.proofs.Buffers.Sizes.{work-size}
use Rattle.lent.specs.Lent.{roots_size}
use Rattle.lent.proofs.Sizes.{roots-size}
use Rattle.canonical.proofs.Answered.{success}
use Rattle.network_file.specs.Write.{file_size}
use Rattle.network_file.proofs.Format.FileSizes.{file-size}
use Rattle.network_file.proofs.Writing.WriteCall.{writable, short-roots, short-work, short-file, refused, succeeded}
use Rattle.network_file.proofs.write.write_cells.Goals as goal
use Rattle.network_file.proofs.write.write_cells.Goals.{Else-file-lt-FILE}

-- past the tests of 10
long-roots : (c : Else-file-lt-FILE) → roots_size ≤ length c.args.roots.now
long-roots c = omega (arith, roots-size, c.if-roots-lt-ROOTS.false)

long-work : (c : Else-file-lt-FILE) → work_size ≤ length c.args.work.now
long-work c = omega (arith, work-size, c.if-work-lt-WORK.false)

long-file : (c : Else-file-lt-FILE) → file_size ≤ length c.args.file.now
long-file c = omega (arith, file-size, c.if-file-lt-FILE.false)

pub returns-then-roots-lt-ROOTS : goal.returns-then-roots-lt-ROOTS
returns-then-roots-lt-ROOTS c =
    let a = c.args in
    let all = short-roots a.state a.roots.now a.cells.now a.work.now a.file.now
    (omega (arith, roots-size, c.if-roots-lt-ROOTS.true)) in
    record { answer = all.0; work = all.1.0; file = all.1.1 }

pub returns-then-work-lt-WORK : goal.returns-then-work-lt-WORK
returns-then-work-lt-WORK c =
    let a = c.args in
    let all = short-work a.state a.roots.now a.cells.now a.work.now a.file.now
    (omega (arith, work-size, c.if-work-lt-WORK.true)) in
    record { answer = all.0; work = all.1.0; file = all.1.1 }

pub returns-then-file-lt-FILE : goal.returns-then-file-lt-FILE
returns-then-file-lt-FILE c =
    let a = c.args in
    let all = short-file a.state a.roots.now a.cells.now a.work.now a.file.now
    (omega (arith, file-size, c.if-file-lt-FILE.true)) in
    record { answer = all.0; work = all.1.0; file = all.1.1 }

pub write_blocks-requires : goal.write_blocks-requires
write_blocks-requires c =
    let x = c.test_held-answer in
    let a = c.args in
    let p = ap done (sym x.ensures) ∙ sym c.if-is_ok.ensures.value in (
      writable a.state a.roots.now a.cells.now (success a.state a.roots.now a.cells.now (to-T p)),
      long-file (goal.at.write_blocks-requires c).Else-file-lt-FILE,
    )

pub returns-then-is_ok : goal.returns-then-is_ok
returns-then-is_ok c =
    let y = c.write_blocks in
    let w = c.clear_after in
    let x = c.test_held-answer in
    let a = c.args in
    let all = succeeded a.state a.roots.now a.cells.now a.work.now a.file.now
    (long-roots (goal.at.returns-then-is_ok c).Else-file-lt-FILE)
    (long-work (goal.at.returns-then-is_ok c).Else-file-lt-FILE)
    (long-file (goal.at.returns-then-is_ok c).Else-file-lt-FILE) x.result x.ensures w.new.work w.ensures
    (sym c.if-is_ok.ensures.value) y.new.file y.ensures in record { answer = all.0; work = all.1.0; file = all.1.1 }

pub returns-else-is_ok : goal.returns-else-is_ok
returns-else-is_ok c =
    let w = c.clear_after in
    let x = c.test_held-answer in
    let a = c.args in
    let all = refused a.state a.roots.now a.cells.now a.work.now a.file.now
    (long-roots (goal.at.returns-else-is_ok c).Else-file-lt-FILE)
    (long-work (goal.at.returns-else-is_ok c).Else-file-lt-FILE)
    (long-file (goal.at.returns-else-is_ok c).Else-file-lt-FILE) x.result x.ensures w.new.work w.ensures
    (sym c.if-is_ok.ensures.value) in record { answer = all.0; work = all.1.0; file = all.1.1 }
