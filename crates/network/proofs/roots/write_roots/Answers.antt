use Rattle.std.proofs.Common.{◌≡◌, sym, ap, ◌∙◌, arith, List, ℕ, ◌++◌, ◌≤◌, length, take, drop, []}
use mathlib.Core.List.{append-nil}
use lib.Seq.{length-take-le}
use Rattle.std.proofs.lemmas.List.{drop_all}
use Rattle.lists.specs.Written.{over}
use Rattle.lists.proofs.Written.Over.{over-next}
use Rattle.lent.proofs.Sizes.{roots-size}
use Rattle.network.specs.Levels.{root_at}
use Rattle.network.proofs.roots.write_roots.Goals as goal
use Rattle.network.proofs.roots.write_roots.Goals.{Start}

-- the first k elements written over, and the rest behind them
part : (f : ℕ → ℕ) (k : ℕ) (l : List ℕ) → k ≤ length l → over f k (take k l) ++ drop k l ≡ over f k l
part f k l h =
    let none : drop k (take k l) ≡ [] = drop_all k (take k l) (omega (arith, length-take-le k l h)) in
    rw (none, append-nil)

long : (b : Start) → length (take 16 b.args.roots.now) ≡ 16
long b = length-take-le 16 b.args.roots.now (omega (arith, b.requires.1, roots-size))

pub slice_bounds-root-items-end : goal.slice_bounds-root-items-end
slice_bounds-root-items-end c = omega (arith, roots-size)

pub slice_bounds-root-items-end-2 : goal.slice_bounds-root-items-end-2
slice_bounds-root-items-end-2 c = sym (long (goal.at.slice_bounds-root-items-end-2 c).Start)

pub loop-j-preserved : goal.loop-j-preserved
loop-j-preserved c =
    let a = c.args in
    over-next (root_at a.work.now a.m a.below) (take 16 a.roots.now) c.loop-j.root-items c.loop-j.j c.root_of.result
    c.loop-j-test.true c.loop-j.invariant c.root_of.ensures.0

pub returns : goal.returns
returns c =
    let a = c.args in
    let f = root_at a.work.now a.m a.below in
    let all : c.loop-j.j ≡ 16 = omega (arith, long (goal.at.returns c).Start) in
    ap (λ (l : List ℕ). l ++ drop 16 a.roots.now) (c.loop-j.invariant ∙ ap (λ (k : ℕ). over f k (take 16 a.roots.now)) all)
    ∙ part f 16 a.roots.now (omega (arith, roots-size)) ∙ ap (λ (k : ℕ). over f k a.roots.now) (sym roots-size)
