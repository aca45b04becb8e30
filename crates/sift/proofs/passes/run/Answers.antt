use mathlib.Core.Path.{◌≡◌, refl, sym, ap, ◌∙◌}
use native.Mathlib.Omega.{arith}
use Prim.Native.Nat.{◌<◌}
use lib.Dec.{T}
use lib.ListN.{length}
use Rattle.table.specs.State.{good_heading, order_of}
use Rattle.table.proofs.Held.{few-inputs, held-heading}
use Rattle.fill.specs.Work.{zero_work}
use Rattle.sift.proofs.Trying.CountSucceeds.{counted-work, levels-counted, counted-counts, enough-again, zero-still}
use Rattle.sift.proofs.Passing.PassUnderWay.{running-start, running-heading, running-counts}
use Rattle.sift.proofs.Passing.PassUnderWay.{running-next, running-more, running-stop}
use Rattle.sift.proofs.passes.run.Goals as goal
use Rattle.sift.proofs.passes.run.Goals.{After-count_levels}

heading : (k : After-count_levels) → let t = k.args.state in T (good_heading t.n t.m (order_of t))
heading k = held-heading k.args.state k.requires.held

-- what the count left
zeroed : (k : After-count_levels) → k.count_levels.new.work ≡ zero_work k.args.work.now
zeroed k =
    let a = k.args in
    k.count_levels.ensures.work ∙ counted-work a.state a.values.now a.care.now a.work.now k.requires.enough k.requires.held

pub unwrap-levels-requires : goal.unwrap-levels-requires
unwrap-levels-requires c =
    let a = c.args in
    levels-counted a.state a.values.now a.care.now a.work.now c.requires.enough c.requires.held c.count_levels.result
    c.count_levels.ensures.levels

pub loop-turns-init : goal.loop-turns-init
loop-turns-init c =
    let a = c.args in
    let vs = a.values.now in
    let cs = a.care.now in
    let known = counted-counts a.state vs cs a.work.now c.requires.enough c.requires.held c.unwrap-levels.result
    (sym c.count_levels.ensures.levels ∙ c.unwrap-levels.ensures) in record {
      running = running-start a.state a.limit vs cs (heading (goal.at.loop-turns-init c).After-count_levels)
          c.unwrap-levels.result.counts known _ refl;
      turns = refl;
      work = refl;
    }

pub overflow_add-progress : goal.overflow_add-progress
overflow_add-progress c =
    omega (arith, c.loop-turns.invariant.running.limited, c.requires.limit, few-inputs c.args.state c.requires.held)

pub returns-then-limit-progress : goal.returns-then-limit-progress
returns-then-limit-progress c =
    let a = c.args in
    let l = c.loop-turns in record {
      progress = running-stop a.state a.limit a.values.now a.care.now
          (heading (goal.at.returns-then-limit-progress c).After-count_levels) l.progress l.invariant.running
          (λ _. c.if-limit-progress.true);
      work = l.invariant.work ∙ zeroed (goal.at.returns-then-limit-progress c).After-count_levels;
    }

pub turn-progress-requires : goal.turn-progress-requires
turn-progress-requires c =
    let a = c.args in
    let vs = a.values.now in
    let cs = a.care.now in
    let l = c.loop-turns in record {
      enough = enough-again vs cs a.work.now l.work c.requires.enough (ap length l.invariant.work ∙ c.count_levels.auto.work);
      heading = running-heading a.state a.limit vs cs (heading (goal.at.turn-progress-requires c).After-count_levels)
          l.progress l.invariant.running;
      some_left = (omega (arith, c.loop-turns-test.true, l.invariant.turns), omega (arith, l.invariant.running.limited, c.requires.limit));
      counted = running-counts a.state a.limit vs cs
          (heading (goal.at.turn-progress-requires c).After-count_levels) l.progress l.invariant.running;
    }

pub loop-turns-preserved : goal.loop-turns-preserved
loop-turns-preserved c =
    let a = c.args in
    let l = c.loop-turns in
    let r = c.turn-progress in
    let h = heading (goal.at.loop-turns-preserved c).After-count_levels in
    let some : l.progress.turns < a.state.n = omega (arith, c.loop-turns-test.true, l.invariant.turns) in
    let room = c.if-limit-progress.false in record {
      running = running-next a.state a.limit a.values.now a.care.now h l.progress l.invariant.running some room r.result r.ensures.progress;
      turns = omega (
        arith,
        l.invariant.turns,
        running-more a.state a.limit a.values.now a.care.now h l.progress l.invariant.running some room r.result r.ensures.progress,
      );
      work = zero-still a.work.now l.work r.new.work
          (l.invariant.work ∙ zeroed (goal.at.loop-turns-preserved c).After-count_levels) r.ensures.work
          ∙ sym (zeroed (goal.at.loop-turns-preserved c).After-count_levels);
    }

pub returns : goal.returns
returns c =
    let a = c.args in
    let l = c.loop-turns in record {
      progress = running-stop a.state a.limit a.values.now a.care.now
          (heading (goal.at.returns c).After-count_levels) l.progress l.invariant.running
          (λ h. absurd (omega (arith, h, c.loop-turns-test.false, l.invariant.turns)));
      work = l.invariant.work ∙ zeroed (goal.at.returns c).After-count_levels;
    }
