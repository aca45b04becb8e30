use borrow.Author.Rules.{rules}
use mathlib.Core.Path.{◌≡◌, sym, ap, ◌∙◌}
use mathlib.Core.List.{sum}
use Prim.Native.Nat.{ℕ, ◌+◌, ◌*◌}
use native.Mathlib.Nat.{zero-add}
use native.Mathlib.Omega.{arith}
use lib.ListN.{get_or, drop}
use Rattle.lists.proofs.Numbers.Total.{sum_more, sum-all}
use Rattle.diagram.specs.Networks.Bound.{most_variables}
use Rattle.fill.specs.Calls.{counts_of}
use Rattle.sift.proofs.Trying.LentCounts.{level-room, level-length, level-at}
use Rattle.sift.proofs.counts.total_of.Goals as goal
use Rattle.sift.proofs.counts.total_of.Goals.{After-shared_slice_known-1}

pub bounds-counts-p : goal.bounds-counts-p
bounds-counts-p c =
    omega (
      arith,
      level-room c.args.counts.now c.args.p c.requires.p_lt_most_variables.0
          c.requires.p_lt_most_variables.1,
      c.loop-l-test.true,
    )

-- with the count of level l
more : (c : After-shared_slice_known-1)
    → let a = c.args in
    let l = c.loop-l in
    let cs = counts_of a.p a.counts.now in
    (l.total + get_or a.counts.now (most_variables * a.p + l.l) 0) + sum ◌+◌ 0 (drop (l.l + 1) cs) ≡ sum ◌+◌ 0 cs
more c =
    let a = c.args in
    let l = c.loop-l in
    let cs = counts_of a.p a.counts.now in
    let below = c.loop-l-test.true in
    ap (λ (x : ℕ). (l.total + x) + sum ◌+◌ 0 (drop (l.l + 1) cs))
    (sym (level-at a.counts.now a.p c.requires.p_lt_most_variables.0 c.requires.p_lt_most_variables.1 l.l below))
    ∙ sum_more cs l.total l.l l.invariant.1
    (omega (arith, below, level-length a.counts.now a.p c.requires.p_lt_most_variables.0 c.requires.p_lt_most_variables.1))

pub overflow_add-total-in-loop-l : goal.overflow_add-total-in-loop-l
overflow_add-total-in-loop-l c =
    omega (arith, more (goal.at.overflow_add-total-in-loop-l c).After-shared_slice_known-1, c.requires.counts_bound)

pub loop-l-preserved : goal.loop-l-preserved
loop-l-preserved c =
    (omega arith, more (goal.at.loop-l-preserved c).After-shared_slice_known-1)

pub returns : goal.returns
returns c =
    let a = c.args in
    let l = c.loop-l in
    sum-all (counts_of a.p a.counts.now) l.total l.l l.invariant.1
    (omega (arith, c.loop-l-test.false, level-length a.counts.now a.p c.requires.p_lt_most_variables.0 c.requires.p_lt_most_variables.1))
