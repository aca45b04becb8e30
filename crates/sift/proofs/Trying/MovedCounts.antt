-- The counts of the trials of a variable v: moved to the top, it is tried at each level but its own, whose counts are put in before.
-- So those of each level are of the order with v there, and add up to its cost.
-- Assumes nothing.
use mathlib.Core.Path.{◌≡◌, refl, sym, ap, ◌∙◌, subst}
use mathlib.Core.Bool.{not}
use mathlib.Core.List.{List, ◌∷◌, ◌++◌, sum}
use Prim.Native.Nat.{ℕ, ◌+◌, ◌*◌, ◌≤◌, ◌<◌}
use native.Mathlib.Omega.{arith}
use borrow.Author.Tests.{eqb-true}
use lib.Dec.{T, eqb}
use lib.ListN.{length, get_or, take, drop}
use Rattle.lists.specs.Written.{splice}
use Rattle.lists.specs.Lists.{index}
use Rattle.lists.proofs.Bools.{split, of_T, to-T}
use Rattle.lists.proofs.Written.Splice.{length-splice}
use Rattle.diagram.specs.Networks.Bound.{most_variables, most_nodes}
use Rattle.diagram.specs.Orders.Order.{moved}
use Rattle.diagram.specs.Table.{Table}
use Rattle.diagram.proofs.Orders.Order.{order-distinct, every-variable, index_below}
use Rattle.diagram.proofs.Orders.Moved.{without-moved, moved-self}
use Rattle.table.specs.declared.State.{State}
use Rattle.table.specs.declared.Stage.{Stage}
use Rattle.table.specs.State.{good_heading, order_of, stage_of, is_nothing, reordered_state}
use Rattle.table.proofs.Held.{stage-good, heading-inputs, heading-order}
use Rattle.fill.specs.Work.{trials_zero}
use Rattle.fill.specs.Calls.{held_table, enough, counts_size, trial_counts, tried_counts, trials_counts, trials_work, counts_of}
use Rattle.fill.proofs.Calls.TriedCounts.{put-here, tried-at, tried-kept, trials-counts, trials-work, counts-cost}
use Rattle.fill.proofs.Lowered.TrialSizes.{counts-size}
use Rattle.sift.specs.Inner.Counts.{counts_under, MovedCounts}
use Rattle.sift.specs.Inner.Trials.{cost_at}
use Rattle.sift.proofs.Trying.ReorderedHeading.{heading-moved, take-moved, heading-after}

-- from the top a variable moves to where it would have moved from its own level

moved-top : (v p : ℕ) (order : List ℕ) → moved v p (moved v 0 order) ≡ moved v p order
unfolding moved
moved-top v p order = ap (λ (xs : List ℕ). take p xs ++ (v ∷ drop p xs)) (without-moved v 0 order)

top-first : (v : ℕ) (order : List ℕ) → get_or (moved v 0 order) 0 0 ≡ v
unfolding moved
top-first v order = refl

module _ (s : State) (values care : List ℕ) (g : T (good_heading s.n s.m (order_of s))) (v : ℕ) (below : v < s.n) where
  abbrev t : Table
  t = held_table s values care

  -- what the counts of a level add up to
  pub moved-total : (cs : List ℕ) → MovedCounts t v (order_of s) cs → (p : ℕ) → p < s.n
      → (sum ◌+◌ 0 (counts_of p cs) ≡ cost_at t v (order_of s) p) × (sum ◌+◌ 0 (counts_of p cs) ≤ most_nodes)
  unfolding counts_under
  moved-total cs m p h =
      let e : sum ◌+◌ 0 (counts_of p cs) ≡ sum ◌+◌ 0 (counts_under t (moved v p (order_of s))) = ap (sum ◌+◌ 0) (m.at p h) in
      let c = counts-cost t (moved v p (order_of s)) (heading-moved s.n s.m (order_of s) g v p below) in
      (e ∙ c.0, omega (arith, e, c.1))

  -- v is at the top
  module _ (top : List ℕ) (dt : top ≡ moved v 0 (order_of s) ++ drop s.n s.order) where
    top-held : T (not (is_nothing (stage_of (reordered_state s top))))
    top-held =
        to-T (ap (λ (x : Stage). not (is_nothing x))
        (stage-good (reordered_state s top) (of_T (heading-after s.n s.m s.order g v 0 below top dt))))

    trial-moved : (p : ℕ) → trial_counts (reordered_state s top) values care p ≡ counts_under t (moved v p (order_of s))
    unfolding counts_under
    trial-moved p =
        ap (λ (xs : List ℕ). counts_under t (moved (get_or xs 0 0) p xs)) (take-moved s.n s.m s.order g v 0 below top dt)
        ∙ ap (λ (w : ℕ). counts_under t (moved w p (moved v 0 (order_of s)))) (top-first v (order_of s))
        ∙ ap (counts_under t) (moved-top v p (order_of s))

    -- the known counts are put in where v stands, and the trials succeed
    module _ (known : List ℕ) (dk : known ≡ counts_under t (order_of s)) (q : ℕ) (dq : q ≡ index eqb v (order_of s)) (found : List ℕ)
        (room : counts_size ≤ length found) (put : List ℕ) (dp : put ≡ splice found (most_variables * q) known) where
      few : s.n ≤ most_variables
      few = heading-inputs s.n s.m (order_of s) g

      level-below : q < s.n
      level-below =
          subst (λ (j : ℕ). j < s.n) (sym dq) (index_below s.n (order_of s) (heading-order s.n s.m (order_of s) g) v below)

      known-length : length known ≡ most_variables
      unfolding counts_under
      known-length = ap length dk

      put-length : length put ≡ length found
      put-length =
          ap length dp
          ∙ length-splice found (most_variables * q) known (omega (arith, counts-size, known-length, level-below, few))

      put-room : counts_size ≤ length put
      put-room = omega (arith, put-length)

      -- they are of v at its own level
      kept-level : counts_of q put ≡ counts_under t (moved v q (order_of s))
      kept-level =
          let o = heading-order s.n s.m (order_of s) g in
          ap (counts_of q) dp
          ∙ put-here found q known known-length (omega (arith, counts-size, level-below, few))
          ∙ dk
          ∙ ap (counts_under t)
          (sym (ap (λ (j : ℕ). moved v j (order_of s)) dq
          ∙ moved-self v (order_of s) (order-distinct s.n (order_of s) o) (every-variable s.n (order_of s) o v below)))

      module _ (work : List ℕ) (e : T (enough values care work)) (current : State) (dc : current ≡ reordered_state s top) where
        pub counts-moved : (after : List ℕ) → after ≡ trials_counts current q values care put work → MovedCounts t v (order_of s) after
        counts-moved after d =
            let u = reordered_state s top in
            let tried = tried_counts u q values care put s.n in
            let all = d ∙ ap (λ (c : State). trials_counts c q values care put work) dc
            ∙ trials-counts u q values care put work e put-room top-held in
            record {
              at =
                  λ p h. ap (counts_of p) all
                  ∙ split (eqb p q)
                  (λ same. subst (λ (j : ℕ). counts_of j tried ≡ counts_under t (moved v j (order_of s))) (sym (eqb-true p q same))
                  (tried-kept u q values care put s.n (omega (arith, counts-size, put-room, few)) ∙ kept-level))
                  (λ other. tried-at u q values care put p s.n h other (omega (arith, counts-size, put-room, few)) ∙ trial-moved p);
            }

        pub work-zeroed : (after : List ℕ) → after ≡ trials_work current values care put work → after ≡ trials_zero work
        work-zeroed after d =
            d ∙ ap (λ (c : State). trials_work c values care put work) dc
            ∙ trials-work (reordered_state s top) q values care put work e put-room top-held
