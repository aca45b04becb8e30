-- `reorder::gather::gather_output` meets its contract: both planes are written over zeros.
-- Assumes nothing.
use Rattle.std.proofs.Common.{◌≡◌, sym, ap, ap₂, ◌∙◌, ℕ, ◌+◌, List, ◌++◌, drop, replicate, arith}
use Rattle.reorder.specs.Sizes.{width, part_size}
use Rattle.reorder.specs.Gather.{gathered_plane}
use Rattle.reorder.proofs.Shifts.{most-rows, part-size, rows-room, width_room, base-room, base-shifted}
use Rattle.reorder.proofs.Gathered.{part-met, part-wide, part-late}
use Rattle.reorder.proofs.gather.gather_output.Goals as goal
use Rattle.reorder.proofs.gather.gather_output.Goals.{else-n-le-VARIABLES-via-then-n-le-VARIABLES+else-j-lt-OUTPUTS}
use Rattle.reorder.proofs.gather.gather_output.Goals.{else-n-le-VARIABLES-via-else-n-le-VARIABLES}

-- the array that is written
zeros : replicate {A = ℕ} 256 0 ≡ replicate part_size 0
zeros = ap (λ (k : ℕ). replicate {A = ℕ} k 0) (sym part-size)

pub gather-requires-clause-base_bound : goal.gather-requires-clause-base_bound
gather-requires-clause-base_bound c = base-room c.args.j c.args.n c.if-j-lt-OUTPUTS.true c.if-n-le-VARIABLES.true

pub gather-requires-clause-rows_mapped : goal.gather-requires-clause-rows_mapped
gather-requires-clause-rows_mapped c = omega (arith, most-rows, rows-room c.args.n c.if-n-le-VARIABLES.true)

pub gather-requires-clause-room : goal.gather-requires-clause-room
gather-requires-clause-room c = omega (arith, part-size, width_room c.args.n c.if-n-le-VARIABLES.true)

pub returns-then-j-lt-OUTPUTS : goal.returns-then-j-lt-OUTPUTS
returns-then-j-lt-OUTPUTS c =
    let n = c.if-n-le-VARIABLES.true in
    let j = c.if-j-lt-OUTPUTS.true in
    let a = c.args in
    let plane : List ℕ → ℕ → List ℕ = λ l b. gathered_plane l b a.map a.n in
    c.gather.ensures
    ∙ ap₂ (λ b l. plane a.values.now b ++ plane a.care.now b ++ drop (width a.n + width a.n) l) (base-shifted a.j a.n j n) zeros
    ∙ sym (part-met a.values.now a.care.now a.map a.n a.j n j)

pub returns-else-n-le-VARIABLES : goal.returns-else-n-le-VARIABLES
returns-else-n-le-VARIABLES c =
    let a = c.args in
    zeros
    ∙ elim c.else-n-le-VARIABLES.branch [
      | else-n-le-VARIABLES-via-then-n-le-VARIABLES+else-j-lt-OUTPUTS w ↦
          part-late a.values.now a.care.now a.map a.n a.j w.if-n-le-VARIABLES.true w.if-j-lt-OUTPUTS.false
      | else-n-le-VARIABLES-via-else-n-le-VARIABLES w ↦
          part-wide a.values.now a.care.now a.map a.n a.j w.if-n-le-VARIABLES.false
    ]
