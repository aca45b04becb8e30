-- Each turn adds the rows of one bit. Assumes nothing.
use Rattle.std.proofs.Common.{◌≡◌, sym, ap, ◌∙◌, ℕ, List, ◌≤◌, ◌*◌, ◌%◌, ◌^◌, ◌<◌, length, get_or, take, replicate, arith, get_or-take}
use Rattle.lists.proofs.Bits.Digits.{one_shifted}
use lib.Seq.{length-take-le}
use Rattle.diagram.specs.Networks.Bound.{most_variables}
use Rattle.reorder.specs.Sizes.{most_rows}
use Rattle.reorder.specs.Inner.Rows.{row_shares}
use Rattle.reorder.proofs.Shares.{length-shares}
use Rattle.reorder.proofs.Shifts.{most-rows}
use Rattle.reorder.proofs.Gathered.{map-past, map-filled}
use Rattle.reorder.proofs.Doubled.{length-rows, rows-first, rows-within, next-room, rows_more}
use Rattle.reorder.proofs.rows.row_map.Goals as goal
use Rattle.reorder.proofs.rows.row_map.Goals.{At-loop-l, In-loop-l}

zeros : replicate {A = ℕ} 1024 0 ≡ replicate most_rows 0
zeros = ap (λ (k : ℕ). replicate {A = ℕ} k 0) (sym most-rows)

pub returns-then-n-gt-VARIABLES : goal.returns-then-n-gt-VARIABLES
returns-then-n-gt-VARIABLES c = zeros ∙ map-past c.args.n c.args.order c.if-n-gt-VARIABLES.true

pub loop-l-init : goal.loop-l-init
loop-l-init c = zeros ∙ rows-first c.args.n c.args.order

size : (c : At-loop-l) → length c.loop-l.map ≡ 1024
size c = ap length c.loop-l.invariant ∙ length-rows c.args.n c.args.order c.loop-l.l ∙ most-rows

-- there are n shares, one for each bit
bits : (n : ℕ) (order s : List ℕ) → n ≤ most_variables → s ≡ row_shares n order → length (take n s) ≡ n
bits n order s h e = length-take-le n s (omega (arith, ap length e, length-shares n order))

below : (c : In-loop-l) → c.loop-l.l < c.args.n
below c = omega (arith, bits c.args.n c.args.order c.shares-shares.result c.if-n-gt-VARIABLES.false c.shares-shares.ensures)

-- the share of bit l
share : (c : In-loop-l) → get_or (take c.args.n c.shares-shares.result) c.loop-l.l 0 ≡ get_or c.shares-shares.result c.loop-l.l 0
share c =
    get_or-take c.args.n c.shares-shares.result c.loop-l.l 0 (below c)

pub double-requires-clause-room : goal.double-requires-clause-room
double-requires-clause-room c =
    let l = below (goal.at.double-requires-clause-room c).In-loop-l in
    omega (
      arith,
      one_shifted c.loop-l.l (omega arith),
      size (goal.at.double-requires-clause-room c).At-loop-l,
      most-rows,
      rows-within c.args.n c.loop-l.l c.if-n-gt-VARIABLES.false (omega arith),
    )

pub double-requires-clause-rows_fit : goal.double-requires-clause-rows_fit
double-requires-clause-rows_fit c q r =
    let a = c.args in
    let g = c.shares-shares in
    let l = c.loop-l.l in
    let h = below (goal.at.double-requires-clause-rows_fit c).In-loop-l in
    omega (
      arith,
      share (goal.at.double-requires-clause-rows_fit c).In-loop-l,
      next-room a.n a.order c.if-n-gt-VARIABLES.false l (omega arith) g.result c.loop-l.map g.ensures c.loop-l.invariant q
          (omega (arith, one_shifted l (omega arith))),
    )

pub loop-l-preserved : goal.loop-l-preserved
loop-l-preserved c =
    let a = c.args in
    let g = c.shares-shares in
    let l = c.loop-l.l in
    let h = below (goal.at.loop-l-preserved c).In-loop-l in
    rows_more a.n a.order c.if-n-gt-VARIABLES.false l (omega arith) g.result c.loop-l.map g.ensures c.loop-l.invariant
    c.double.new.map (1 * 2 ^ l % 18446744073709551616) (one_shifted l (omega arith))
    (rw (share (goal.at.loop-l-preserved c).In-loop-l) at c.double.ensures)

pub returns : goal.returns
returns c =
    let a = c.args in
    let e : c.loop-l.l ≡ a.n =
    omega (arith, bits a.n a.order c.shares-shares.result c.if-n-gt-VARIABLES.false c.shares-shares.ensures) in
    c.loop-l.invariant ∙ map-filled a.n a.order c.if-n-gt-VARIABLES.false (2 ^ c.loop-l.l) (ap (λ k. 2 ^ k) e)
