-- The outcome of a single sift by what it is refused for, and by what was tried where it isn't, with demand 3 of what it leaves.
-- Assumes nothing.
use Rattle.std.specs.Prelude.{Ok, Err, IfOk}
use Rattle.std.proofs.lemmas.Result.{IfOk-at_ok}
use mathlib.Core.Path.{◌≡◌, refl, sym, ap, ◌∙◌, subst}
use mathlib.Core.Bool.{true, false, not}
use mathlib.Core.List.{List, ◌++◌}
use Prim.Native.Nat.{ℕ, ◌≤◌, ◌<◌}
use borrow.Author.Tests.{lt-ltb, le-ltb}
use lib.Dec.{T, ltb, ltb→lt}
use lib.ListN.{drop}
use Rattle.lists.proofs.Bools.{of_T, to-T}
use Rattle.diagram.specs.Orders.Order.{moved}
use Rattle.diagram.specs.Table.{Table, cost}
use Rattle.diagram.specs.Orders.Sift.{sift}
use Rattle.diagram.specs.Orders.Limits.{SiftNoDearer}
use Rattle.diagram.specs.Demands.{SiftedLeast}
use Rattle.diagram.proofs.Orders.Sift.{sift-order, sifted}
use Rattle.diagram.proofs.Orders.Limits.{sift-no-dearer}
use Rattle.table.specs.declared.Refusal.TheVariants.{NoSuch, ShortBuffer, NoTable}
use Rattle.table.specs.declared.Done.{Done}
use Rattle.table.specs.declared.State.{State}
use Rattle.table.specs.Answer.{Outcome, done}
use Rattle.table.proofs.Outcomes.{outcome-done}
use Rattle.table.specs.State.{order_of, stage_of, is_nothing, reordered_state}
use Rattle.table.proofs.Files.Accepted.{unless-done}
use Rattle.table.proofs.Held.{held-heading, heading-order}
use Rattle.fill.specs.Work.{zero_work}
use Rattle.fill.specs.Calls.{held_table, enough}
use Rattle.sift.specs.declared.trials.Best.{Best}
use Rattle.sift.specs.Inner.Trials.{best_of}
use Rattle.sift.specs.Calls.{sifted_order, sift_answer, sift_outcome, sift_work, SiftDemand, SiftNeverDearer, with_order}
use Rattle.sift.proofs.Trying.ReorderedHeading.{take-order}
use Rattle.sift.proofs.Trying.SiftedCounts.{best-sifts}

-- an outcome and a work buffer are those of a sift
abbrev pub Sifts : State → ℕ → List ℕ → List ℕ → List ℕ → Outcome → List ℕ → Type 0
Sifts s v values care work r after =
    (r ≡ sift_outcome s v values care work)
    × ((after ≡ sift_work s v values care work) × (IfOk r (SiftDemand v values care) × IfOk r (SiftNeverDearer s values care)))

module _ (s : State) (v : ℕ) (values care work : List ℕ) where
  pub sift-short : enough values care work ≡ false → Sifts s v values care work (Err ShortBuffer) work
  unfolding sift_answer sift_outcome sift_work
  sift-short e = (rw e, (rw e, (tt, tt)))

  pub sift-no-table : enough values care work ≡ true → not (is_nothing (stage_of s)) ≡ false
      → Sifts s v values care work (Err NoTable) work
  unfolding sift_answer sift_outcome sift_work
  sift-no-table e h = (rw (e, h), (rw (e, h), (tt, tt)))

  module _ (e : enough values care work ≡ true) (h : not (is_nothing (stage_of s)) ≡ true) where
    pub sift-no-variable : s.n ≤ v → Sifts s v values care work (Err NoSuch) work
    unfolding sift_answer sift_outcome sift_work
    sift-no-variable l = (rw (e, h, le-ltb v s.n l), (rw (e, h, le-ltb v s.n l), (tt, tt)))

    sifted_done : Done
    sifted_done =
        record {
          value = cost (held_table s values care) (sifted_order s v values care);
          state = with_order s (sifted_order s v values care);
        }

    module _ (l : v < s.n) where
      -- the order left is the one that sifting leaves
      order-left : order_of (with_order s (sifted_order s v values care)) ≡ sifted_order s v values care
      order-left =
          let o = heading-order s.n s.m (order_of s) (held-heading s (to-T h)) in
          take-order s.n (sifted_order s v values care) s.order _ (sift-order (held_table s values care) v (order_of s) o l) refl

      demand : SiftDemand v values care sifted_done
      unfolding SiftDemand sifted_done
      demand =
          let t : Table = held_table s values care in
          subst (λ (order : List ℕ). SiftedLeast t v order (cost t (sifted_order s v values care))) (sym order-left)
          (sifted t v (order_of s) l)

      never-dearer : SiftNeverDearer s values care sifted_done
      unfolding sifted_done SiftNoDearer
      never-dearer =
          sift-no-dearer (held_table s values care) v (order_of s) (heading-order s.n s.m (order_of s) (held-heading s (to-T h))) l

      sift-whole : Sifts s v values care work (Ok sifted_done) (zero_work work)
      unfolding sift_answer sift_outcome sift_work sifted_done
      sift-whole = (rw (e, h, lt-ltb v s.n l), (rw (e, h, lt-ltb v s.n l), (demand, never-dearer)))

      -- as the best level was found, and the order made with v there
      module _ (b : Best) (d : b ≡ best_of (held_table s values care) v (order_of s)) where
        best-cost : b.cost ≡ cost (held_table s values care) (sifted_order s v values care)
        unfolding sift best_of
        best-cost = ap (λ (x : Best). x.cost) d

        pub sift-done : (order : List ℕ) → order ≡ moved v b.level (order_of s) ++ drop s.n s.order → (left : State)
            → left ≡ reordered_state s order → (after : List ℕ) → after ≡ zero_work work
            → Sifts s v values care work (Ok (record { value = b.cost; state = left })) after
        unfolding sifted_done
        sift-done order o left t after z =
            let q : left ≡ with_order s (sifted_order s v values care) =
            t
            ∙ ap (reordered_state s)
            (o ∙ ap (λ (xs : List ℕ). xs ++ drop s.n s.order) (best-sifts (held_table s values care) v (order_of s) b d)) in
            let same : record { value = b.cost; state = left } ≡ sifted_done =
            λ i. record { value = best-cost i; state = q i } in
            subst (λ (r : Done). Sifts s v values care work (Ok r) after) (sym same)
            (subst (λ (w : List ℕ). Sifts s v values care work (Ok sifted_done) w) (sym z) sift-whole)

  -- a sift that is done, as it is defined: a table is held, v is one of its variables, the order left is the one that sifting leaves, and
  -- the value answered is its cost
  pub record SiftDone (r : Done) : Type 0 where
    pub held : T (not (is_nothing (stage_of s)))
    pub known : v < s.n
    pub left : order_of r.state ≡ sifted_order s v values care
    pub answered : r.value ≡ cost (held_table s values care) (sifted_order s v values care)

  pub sift-is-done : (r : Done) → sift_outcome s v values care work ≡ Ok r → SiftDone r
  unfolding sift_answer sift_outcome sifted_done
  sift-is-done r d =
      let answered = (outcome-done (sift_answer s v values care work) _ r d).0 in
      let a = unless-done (enough values care work) ShortBuffer _ (to-T (ap done answered)) in
      let b = unless-done (not (is_nothing (stage_of s))) NoTable _ a.1 in
      let c = unless-done (ltb v s.n) NoSuch (Ok (cost (held_table s values care) (sifted_order s v values care))) b.1 in
      let l = ltb→lt v s.n c.0 in
      let same : sifted_done (of_T a.0) (of_T b.0) ≡ r =
      IfOk-at_ok (λ x. sifted_done (of_T a.0) (of_T b.0) ≡ x) ((sift-whole (of_T a.0) (of_T b.0) l).0 ∙ d) refl in
      record {
        held = b.0;
        known = l;
        left = ap (λ (x : Done). order_of x.state) (sym same) ∙ order-left (of_T a.0) (of_T b.0) l;
        answered = ap (λ (x : Done). x.value) (sym same);
      }
