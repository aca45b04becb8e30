-- When a state is valid: the heading's rules tested one after the other, and what a state that holds a table keeps.
-- Assumes nothing.
use mathlib.Core.Path.{◌≡◌}
use mathlib.Core.Bool.{true, false, not, ◌&&◌}
use mathlib.Core.List.{List}
use Prim.Native.Nat.{ℕ, ◌*◌, ◌^◌, ◌≤◌}
use native.Mathlib.Omega.{arith}
use borrow.Author.Tests.{le-leb}
use lib.Dec.{T, leb, leb→le}
use Rattle.lists.proofs.Bools.{split, to-T, and_l, and_r}
use Rattle.diagram.specs.Networks.Bound.{most_variables, most_outputs}
use Rattle.diagram.specs.Orders.Order.{is_order}
use Rattle.table.specs.declared.State.{State}
use Rattle.table.specs.declared.Stage.TheVariants.{Nothing}
use Rattle.table.specs.State.{good_heading, order_of, stage_of, is_nothing}
use Rattle.table.specs.Sizes.{most_bits}
use Rattle.table.proofs.Files.Answers.{stream-small}

-- a heading that keeps the other rules, by its order
pub good-order : (n m : ℕ) (order : List ℕ) → n ≤ most_variables → (m ≡ 0 → ⊥) → m ≤ most_outputs → good_heading n m order ≡ is_order n order
unfolding good_heading
good-order n m order h d k = rw (le-leb n most_variables h, le-leb 1 m (omega arith), le-leb m most_outputs k)

-- the stage that a state counts as

pub stage-bad : (s : State) → good_heading s.n s.m (order_of s) ≡ false → stage_of s ≡ Nothing
unfolding stage_of
stage-bad s e = rw e

pub stage-good : (s : State) → good_heading s.n s.m (order_of s) ≡ true → stage_of s ≡ s.stage
unfolding stage_of
stage-good s e = rw e

-- what a heading that keeps the rules has

module _ (n m : ℕ) (order : List ℕ) (g : T (good_heading n m order)) where
  pub heading-inputs : n ≤ most_variables
  unfolding good_heading
  heading-inputs = leb→le n most_variables (and_l (leb n most_variables) _ g)

  pub heading-outputs : T (leb 1 m && leb m most_outputs)
  unfolding good_heading
  heading-outputs = and_l (leb 1 m && leb m most_outputs) (is_order n order) (and_r (leb n most_variables) _ g)

  pub heading-few : m ≤ most_outputs
  heading-few = leb→le m most_outputs (and_r (leb 1 m) (leb m most_outputs) heading-outputs)

  pub heading-order : T (is_order n order)
  unfolding good_heading
  heading-order = and_r (leb 1 m && leb m most_outputs) (is_order n order) (and_r (leb n most_variables) _ g)

-- what a state that holds a table keeps

module _ (s : State) (held : T (not (is_nothing (stage_of s)))) where
  pub held-heading : T (good_heading s.n s.m (order_of s))
  held-heading =
      split (good_heading s.n s.m (order_of s)) (λ e. to-T e) (λ e. absurd (rw (stage-bad s e) at held))

  pub few-inputs : s.n ≤ most_variables
  few-inputs = heading-inputs s.n s.m (order_of s) held-heading

  pub some-outputs : 1 ≤ s.m
  some-outputs =
      leb→le 1 s.m (and_l (leb 1 s.m) (leb s.m most_outputs) (heading-outputs s.n s.m (order_of s) held-heading))

  pub few-outputs : s.m ≤ most_outputs
  few-outputs = heading-few s.n s.m (order_of s) held-heading

  pub ordered : T (is_order s.n (order_of s))
  ordered = heading-order s.n s.m (order_of s) held-heading

  pub few_bits : s.m * 2 ^ s.n ≤ most_bits
  few_bits = stream-small s.n s.m few-inputs few-outputs

-- how small the numbers of a held table are
pub ruleset held_small = (few-inputs, few_bits)
