-- The outcome of a pass by what it is refused for, and by what was held at its end where it isn't, with demand 3 of what it leaves.
-- Assumes nothing.
use Rattle.std.specs.Prelude.{Ok, Err, IfOk}
use Rattle.std.proofs.lemmas.Result.{IfOk-at_ok}
use mathlib.Core.Path.{◌≡◌, refl, sym, ap, ◌∙◌, subst}
use mathlib.Core.Bool.{true, false, not}
use mathlib.Core.List.{List}
use Prim.Native.Nat.{ℕ, suc, ◌*◌, ◌-◌, ◌≤◌, ◌<◌}
use native.Mathlib.Omega.{arith}
use lib.Dec.{T}
use Rattle.lists.proofs.Bools.{of_T, to-T}
use Rattle.diagram.specs.Table.{Table, cost}
use Rattle.diagram.specs.Orders.Order.{is_order}
use Rattle.diagram.specs.Orders.Sift.{Pass, allowed, next, pass}
use Rattle.diagram.specs.Orders.Limits.{PassNoDearer, LargerLimit}
use Rattle.diagram.specs.Demands.{SiftedLeast, order_after, TurnsLeast}
use Rattle.diagram.proofs.Orders.Limits.{larger-limit, pass-no-dearer}
use Rattle.diagram.proofs.Orders.Pass.{turns-least, limits, allowed-le, pass-going, pass-sifted, pass-tried}
use Rattle.table.specs.declared.Refusal.TheVariants.{ShortBuffer, NoTable}
use Rattle.table.specs.declared.Done.{Done}
use Rattle.table.specs.declared.State.{State}
use Rattle.table.specs.Answer.{Outcome, done}
use Rattle.table.proofs.Outcomes.{outcome-done, if-success}
use Rattle.table.specs.State.{order_of, stage_of, is_nothing, reordered_state}
use Rattle.table.proofs.Files.Accepted.{unless-done}
use Rattle.table.proofs.Held.{held-heading, heading-order}
use Rattle.fill.specs.Work.{zero_work}
use Rattle.fill.specs.Calls.{held_table, enough}
use Rattle.sift.specs.declared.passes.Progress.{Progress}
use Rattle.sift.specs.Calls.{pass_of, pass_answer, pass_outcome, pass_work, PassDemand, PassNeverDearer, sifted_at, with_order}
use Rattle.sift.specs.Inner.Turns.{progress_of}
use Rattle.sift.proofs.Trying.ReorderedHeading.{take-order}

-- an outcome and a work buffer are those of a pass
abbrev pub Passes : State → ℕ → List ℕ → List ℕ → List ℕ → Outcome → List ℕ → Type 0
Passes s limit values care work r after =
    (r ≡ pass_outcome s limit values care work)
    × ((after ≡ pass_work s limit values care work) × (IfOk r (PassDemand s limit values care) × IfOk r (PassNeverDearer s limit values care)))

-- demand 3 at the k-th turn, k from 1
at_turn : (t : Table) (order : List ℕ) (k : ℕ) → 0 < k → k ≤ t.n
    → SiftedLeast t (next t (pass t (t.n * (k - 1)) order)) (order_after t order k) (cost t (order_after t order k))
unfolding TurnsLeast
at_turn t order k some few =
    let e : suc (k - 1) ≡ k = omega arith in
    subst (λ (j : ℕ). SiftedLeast t (next t (pass t (t.n * (k - 1)) order)) (order_after t order j) (cost t (order_after t order j))) e
    (turns-least t order (k - 1) (omega arith))

module _ (s : State) (limit : ℕ) (values care work : List ℕ) where
  pub pass-short : enough values care work ≡ false → Passes s limit values care work (Err ShortBuffer) work
  unfolding pass_answer pass_outcome pass_work
  pass-short e = (rw e, (rw e, (tt, tt)))

  pub pass-no-table : enough values care work ≡ true → not (is_nothing (stage_of s)) ≡ false
      → Passes s limit values care work (Err NoTable) work
  unfolding pass_answer pass_outcome pass_work
  pass-no-table e h = (rw (e, h), (rw (e, h), (tt, tt)))

  module _ (e : enough values care work ≡ true) (h : not (is_nothing (stage_of s)) ≡ true) where
    passed_done : Done
    passed_done =
        record { value = (pass_of s limit values care).tried; state = with_order s (pass_of s limit values care).order }

    valid : T (is_order s.n (order_of s))
    valid = heading-order s.n s.m (order_of s) (held-heading s (to-T h))

    -- the order left is the pass's
    pub as_passed : order_of (with_order s (pass_of s limit values care).order) ≡ (pass_of s limit values care).order
    as_passed =
        take-order s.n (pass_of s limit values care).order s.order _
        (pass-going (held_table s values care) limit (order_of s) valid).valid refl

    -- which is the one just after the last turn that the limit allows
    order-left : order_of (with_order s (pass_of s limit values care).order)
        ≡ order_after (held_table s values care) (order_of s) (allowed s.n limit)
    order-left = as_passed ∙ ap (λ (q : Pass). q.order) (limits (held_table s values care) limit (order_of s))

    demand : PassDemand s limit values care passed_done
    unfolding passed_done
    demand =
        let t : Table = held_table s values care in
        let k : ℕ = allowed s.n limit in
        record {
          tried = pass-tried t limit (order_of s) ∙ ap (λ (j : ℕ). s.n * j) (pass-sifted t limit (order_of s));
          turns = turns-least t (order_of s);
          left = order-left;
          last =
              λ some. subst (λ (order : List ℕ). SiftedLeast t (sifted_at s k values care) order (cost t order)) (sym order-left)
              (at_turn t (order_of s) k some (allowed-le s.n limit));
        }

    never-dearer : PassNeverDearer s limit values care passed_done
    unfolding passed_done LargerLimit PassNoDearer
    never-dearer =
        let t : Table = held_table s values care in
        record {
          fewer =
              λ smaller h. subst (λ (order : List ℕ). cost t order ≤ cost t (pass_of s smaller values care).order) (sym as_passed)
              (larger-limit t smaller limit (order_of s) valid h);
          no-dearer = subst (λ (order : List ℕ). cost t order ≤ cost t (order_of s)) (sym as_passed) (pass-no-dearer t limit (order_of s) valid);
        }

    pass-whole : Passes s limit values care work (Ok passed_done) (zero_work work)
    unfolding pass_answer pass_outcome pass_work passed_done
    pass-whole = (rw (e, h), (rw (e, h), (demand, never-dearer)))

    -- as the pass was held at its end
    pub pass-held : (p : Progress) → p ≡ progress_of s values care (pass_of s limit values care) → (left : State)
        → left ≡ reordered_state s p.order → (after : List ℕ) → after ≡ zero_work work
        → Passes s limit values care work (Ok (record { value = p.tried; state = left })) after
    unfolding passed_done progress_of
    pass-held p d left t after z =
        let q : left ≡ with_order s (pass_of s limit values care).order = t ∙ ap (λ (x : Progress). reordered_state s x.order) d in
        let c : p.tried ≡ (pass_of s limit values care).tried = ap (λ (x : Progress). x.tried) d in
        let same : record { value = p.tried; state = left } ≡ passed_done = λ i. record { value = c i; state = q i } in
        subst (λ (r : Done). Passes s limit values care work (Ok r) after) (sym same)
        (subst (λ (w : List ℕ). Passes s limit values care work (Ok passed_done) w) (sym z) pass-whole)

  -- a pass that is done, as it is defined
  pub pass-demand : IfOk (pass_outcome s limit values care work) (PassDemand s limit values care)
  unfolding pass_answer pass_outcome
  pass-demand =
      if-success (pass_outcome s limit values care work) (PassDemand s limit values care)
      (λ r d. let answered = (outcome-done (pass_answer s limit values care work) _ r d).0 in
      let a = unless-done (enough values care work) ShortBuffer _ (to-T (ap done answered)) in
      let b = unless-done (not (is_nothing (stage_of s))) NoTable (Ok (pass_of s limit values care).tried) a.1 in
      IfOk-at_ok (PassDemand s limit values care) ((pass-whole (of_T a.0) (of_T b.0)).0 ∙ d) (demand (of_T a.0) (of_T b.0)))
