-- What the calls owe of the table in the lent bytes they owe of every table alike: its network, cost, sifts and passes are the same.
-- Assumes nothing.
use Rattle.std.specs.Prelude.{Ok, IfOk}
use Rattle.std.proofs.lemmas.Result.{IfOk-at_ok, IfOk-weaker}
use mathlib.Core.Path.{◌≡◌, refl, sym, ap, ◌∙◌, subst, subst₂}
use mathlib.Core.Bool.{true, not}
use mathlib.Core.List.{List}
use mathlib.Core.Logic.{◌↔◌}
use Prim.Native.Nat.{ℕ, ◌*◌, ◌<◌}
use native.Mathlib.Omega.{arith}
use lib.Dec.{T, leb, leb→le, nleb→lt}
use lib.ListN.{length}
use Rattle.lists.proofs.Bools.{split, of_T, to-T, to-not, and_l, and_r}
use Rattle.diagram.specs.Networks.Diagram.{Diagram}
use Rattle.diagram.specs.Orders.Order.{is_order}
use Rattle.diagram.specs.Table.{Table, network_of, cost, Solves}
use Rattle.diagram.specs.Orders.Sift.{Pass, sift, pass, allowed}
use Rattle.diagram.specs.Demands.{Least, NoneFits, SiftedLeast}
use Rattle.diagram.proofs.Demands.{right, as-drawn, least-cost, fits}
use Rattle.diagram.proofs.Filling.FreeRows.{Alike, cost-alike, network-alike, sift-alike, pass-alike}
use Rattle.diagram.proofs.Orders.Sift.{sifted}
use Rattle.diagram.proofs.Orders.Pass.{turns-least}
use Rattle.diagram.proofs.Networks.Count.{cost-nodes}
use Rattle.table.specs.declared.Refusal.TheVariants.{TooSmall}
use Rattle.table.specs.declared.Done.{Done}
use Rattle.table.specs.declared.State.{State}
use Rattle.table.specs.Answer.{Outcome, unless, done, number, answer_of}
use Rattle.table.proofs.Outcomes.{outcome-answer, outcome-done, if-success}
use Rattle.table.specs.State.{order_of, stage_of, is_nothing}
use Rattle.table.proofs.Held.{ordered}
use Rattle.fill.specs.Calls.{held_table}
use Rattle.network.specs.Build.{held_network, wanted, capacity, long_enough, network_state, reaches_board, build_answer, build_outcome}
use Rattle.network.proofs.Building.Outcomes.{Succeeded, succeeded, done-outcome}
use Rattle.network.proofs.Building.SameCells.{diagram-left}
use Rattle.sift.specs.Calls.{sift_outcome, pass_outcome, PassDemand}
use Rattle.sift.proofs.Sifting.SiftOutcome.{sift-is-done}
use Rattle.sift.proofs.Passing.PassOutcome.{pass-demand}
use Rattle.yavdocsil.specs.Demanded.{given, BuildDemands, SiftDemands, PassDemands, Demanded}

module _ (t : Table) (s : State) (values care : List ℕ) (a : Alike t (held_table s values care)) where
  abbrev held : Table
  held = held_table s values care

  abbrev order : List ℕ
  order = order_of s

  valid : T (not (is_nothing (stage_of s))) → T (is_order t.n order)
  valid h = subst (λ (n : ℕ). T (is_order n order)) (sym a.inputs) (ordered s h)

  wanted-cost : wanted s values care ≡ cost t order
  unfolding wanted
  wanted-cost = sym (cost-alike t held a order)

  module _ (work roots cells : List ℕ) where
    abbrev outcome : Outcome
    outcome = build_outcome s values care work roots cells

    passed : (r : Done) → outcome ≡ Ok r → Succeeded s values care work roots cells
    unfolding build_outcome
    passed r d =
        succeeded s values care work roots cells
        (ap done (outcome-done (build_answer s values care work roots cells) (network_state s (wanted s values care)) r d).0)

    module _ (B : Succeeded s values care work roots cells) where
      done-is : (r : Done) → outcome ≡ Ok r → record { value = wanted s values care; state = network_state s (wanted s values care) } ≡ r
      done-is r d =
          IfOk-at_ok (λ x. record { value = wanted s values care; state = network_state s (wanted s values care) } ≡ x)
          (done-outcome s values care work roots cells B.answer ∙ d) refl

      given-network : given s values care work roots cells ≡ network_of true t order
      unfolding held_network
      given-network = diagram-left s values care work roots cells B ∙ sym (network-alike t held a true order)

      given-nodes : length (given s values care work roots cells).nodes ≡ wanted s values care
      given-nodes = ap (λ (D : Diagram). length D.nodes) given-network ∙ sym (cost-nodes t order) ∙ sym wanted-cost

    builds : IfOk outcome (λ r. BuildDemands t order r (given s values care work roots cells) (capacity cells))
    builds =
        if-success outcome (λ r. BuildDemands t order r (given s values care work roots cells) (capacity cells))
        (λ r d. let B = passed r d in
        let o = valid B.held in
        let S = subst (Solves true t order) (sym (given-network B)) (right true t order) in
        let left = done-is B r d in
        let answered : wanted s values care ≡ r.value = ap (λ (x : Done). x.value) left in
        record {
          network = given-network B;
          solves = S;
          drawn = as-drawn true t order (given s values care work roots cells) S o;
          counted = given-nodes B ∙ ap (λ (x : Done). x.state.count) left;
          answered = given-nodes B ∙ answered;
          fits = omega (arith, given-nodes B, B.room);
          least = subst (Least true t order) (sym wanted-cost ∙ answered) (least-cost t order o);
        })

    -- 23, where the checks before it are passed
    fit : reaches_board s values care work roots ≡ true → (number (answer_of outcome) ≡ 23) ↔ NoneFits true t order (capacity cells)
    unfolding reaches_board build_answer build_outcome cost
    fit r =
        let w = wanted s values care in
        let long = and_l (long_enough values care work roots) (not (is_nothing (stage_of s))) (to-T r) in
        let h = and_r (long_enough values care work roots) (not (is_nothing (stage_of s))) (to-T r) in
        let none = fits true t order (valid h) (capacity cells) in
        let answer : build_answer s values care work roots cells ≡ unless (leb w (capacity cells)) (TooSmall w) (Ok w) =
        rw (of_T {b = long_enough values care work roots} long, of_T {b = not (is_nothing (stage_of s))} h) in
        let is = ap number (outcome-answer (build_answer s values care work roots cells) (network_state s w)) in
        split (leb w (capacity cells))
        (λ q. let n : number (answer_of outcome) ≡ 0 = is ∙ ap number answer ∙ rw q in (
          λ z. absurd (omega arith),
          λ x. absurd (omega (arith, none.0 x, wanted-cost, leb→le w (capacity cells) (to-T q))),
        ))
        (λ q. let n : number (answer_of outcome) ≡ 23 = is ∙ ap number answer ∙ rw q in
        (λ z. none.1 (omega (arith, nleb→lt w (capacity cells) (to-not q), wanted-cost)), λ x. n))

  sifts : (v : ℕ) (work : List ℕ) → IfOk (sift_outcome s v values care work) (SiftDemands t v)
  sifts v work =
      if-success (sift_outcome s v values care work) (SiftDemands t v)
      (λ r d. let x = sift-is-done s v values care work r d in
      let same : sift t v order ≡ order_of r.state = sift-alike t held a v order ∙ sym x.left in
      let c : cost t (sift t v order) ≡ r.value =
      cost-alike t held a (sift t v order) ∙ ap (cost held) (sift-alike t held a v order) ∙ sym x.answered in
      record {
        answered = sym c ∙ ap (cost t) same;
        least =
            subst₂ (SiftedLeast t v) same c (sifted t v order (subst (λ (n : ℕ). v < n) (sym a.inputs) x.known));
      })

  passes : (limit : ℕ) (work : List ℕ) → IfOk (pass_outcome s limit values care work) (PassDemands t order limit)
  passes limit work =
      IfOk-weaker (pass_outcome s limit values care work) (PassDemand s limit values care) (PassDemands t order limit)
      (λ r x. let same = pass-alike t held a in
      record {
        tried = x.tried ∙ ap (λ (n : ℕ). n * allowed n limit) (sym a.inputs);
        turns = turns-least t order;
        left =
            x.left ∙ ap (λ (n : ℕ). (pass held (n * allowed n limit) order).order) (sym a.inputs)
            ∙ sym (ap (λ (p : Pass). p.order) (same (t.n * allowed t.n limit) order));
      })
      (pass-demand s limit values care work)

  pub demanded : Demanded t s values care
  demanded = record { builds = builds; fits = fit; sifts = sifts; passes = passes }
