use mathlib.Core.Path.{◌≡◌, sym, ap, ap₂, ◌∙◌}
use mathlib.Core.List.{List, ◌++◌, append-nil}
use Prim.Native.Nat.{ℕ}
use native.Mathlib.Omega.{arith}
use lib.ListN.{take, drop, set, replicate}
use Rattle.lists.proofs.Written.Paste.{paste_more, paste_all}
use Rattle.diagram.specs.Networks.Bound.{most_variables}
use Rattle.fill.specs.Calls.{counts_of}
use Rattle.sift.proofs.Trying.LentCounts.{level-room, level-length, level-at}
use Rattle.sift.proofs.counts.counts_of.Goals as goal

pub bounds-counts-p : goal.bounds-counts-p
bounds-counts-p c =
    omega (arith, level-room c.args.counts.now c.args.p c.requires.0 c.requires.1, c.loop-l-test.true)

pub loop-l-preserved : goal.loop-l-preserved
loop-l-preserved c =
    let a = c.args in
    let l = c.loop-l in
    let cs = counts_of a.p a.counts.now in
    let below = c.loop-l-test.true in (
      omega arith,
      ap₂ (λ (ys : List ℕ) (x : ℕ). set ys l.l x) l.invariant.1
          (sym (level-at a.counts.now a.p c.requires.0 c.requires.1 l.l below))
          ∙ paste_more cs (replicate most_variables 0) l.l
          (omega (arith, below, level-length a.counts.now a.p c.requires.0 c.requires.1)) below,
    )
