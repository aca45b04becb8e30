-- What the calls answer and leave where a table is held and the lent slices are long enough.
-- Assumes nothing.
use Rattle.std.specs.Prelude.{Ok, Err}
use mathlib.Core.Path.{◌≡◌, ap, ◌∙◌}
use mathlib.Core.Bool.{Bool, true, false, cond}
use mathlib.Core.List.{List, ◌++◌}
use Prim.Native.Nat.{ℕ, ◌*◌, ◌<◌}
use borrow.Author.Tests.{lt-ltb}
use lib.Dec.{T, leb}
use lib.ListN.{get_or, drop}
use Rattle.lists.specs.Written.{over}
use Rattle.lists.proofs.Bools.{of_T}
use Rattle.diagram.specs.Table.{cost}
use Rattle.table.specs.declared.Refusal.TheVariants.{TooSmall}
use Rattle.table.specs.declared.State.{State}
use Rattle.table.specs.Answer.{Outcome, answer_of, state_after}
use Rattle.table.proofs.Outcomes.{outcome-answer}
use Rattle.table.specs.State.{order_of, stage_of, is_nothing}
use Rattle.fill.specs.Calls.{held_table, enough, count_answer}
use Rattle.lent.specs.Lent.{numbers_of, roots_size}
use Rattle.network.specs.Build.{held_network, wanted, capacity, long_enough, network_state, build_answer, build_outcome}
use Rattle.network.specs.Build.{build_roots, build_cells}
use Rattle.sift.specs.Calls.{with_order, sifted_order, sift_answer, sift_outcome}
use Rattle.sift.proofs.Sifting.SiftOutcome.{sift-is-done}

module _ (s : State) (values care work : List ℕ) (long : T (enough values care work)) (staged : is_nothing (stage_of s) ≡ false) where
  is-long : enough values care work ≡ true
  is-long = of_T long

  pub counted : count_answer s values care work ≡ Ok (cost (held_table s values care) (order_of s))
  unfolding count_answer
  counted = rw (is-long, staged)

  module _ (v : ℕ) (h : v < s.n) where
    sift-answered : sift_answer s v values care work ≡ Ok (cost (held_table s values care) (sifted_order s v values care))
    unfolding sift_answer
    sift-answered = rw (is-long, staged, lt-ltb v s.n h)

    sifted-outcome : sift_outcome s v values care work
        ≡ Ok (record {
          value = cost (held_table s values care) (sifted_order s v values care);
          state = with_order s (sifted_order s v values care);
        })
    unfolding sift_outcome
    sifted-outcome = rw sift-answered

    pub sifted-answer : answer_of (sift_outcome s v values care work) ≡ Ok (cost (held_table s values care) (sifted_order s v values care))
    sifted-answer = ap answer_of sifted-outcome

    pub sifted-order : order_of (state_after s (sift_outcome s v values care work)) ≡ sifted_order s v values care
    sifted-order =
        ap (λ (o : Outcome). order_of (state_after s o)) sifted-outcome
        ∙ (sift-is-done s v values care work _ sifted-outcome).left

module _ (s : State) (values care work roots cells : List ℕ) (long : T (long_enough values care work roots))
    (staged : is_nothing (stage_of s) ≡ false) where
  all-long : long_enough values care work roots ≡ true
  all-long = of_T long

  -- by the board
  built : (b : Bool) → leb (wanted s values care) (capacity cells) ≡ b
      → build_answer s values care work roots cells ≡ cond b (Ok (wanted s values care)) (Err (TooSmall (wanted s values care)))
  unfolding build_answer
  built b e = rw (all-long, staged, e)

  pub built-answer : (b : Bool) → leb (wanted s values care) (capacity cells) ≡ b
      → answer_of (build_outcome s values care work roots cells) ≡ cond b (Ok (wanted s values care)) (Err (TooSmall (wanted s values care)))
  unfolding build_outcome
  built-answer b e =
      outcome-answer (build_answer s values care work roots cells) (network_state s (wanted s values care)) ∙ built b e

  module _ (room : leb (wanted s values care) (capacity cells) ≡ true) where
    pub built-cells : build_cells s values care work roots cells
        ≡ numbers_of (held_network s values care).nodes ++ drop (3 * wanted s values care) cells
    unfolding build_cells
    built-cells = rw (built true room)

    pub built-roots : build_roots s values care work roots cells ≡ over (λ j. get_or (held_network s values care).roots j 0) roots_size roots
    unfolding build_roots
    built-roots = rw (built true room)
