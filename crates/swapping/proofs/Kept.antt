-- Demands 2 and 3 of a swap in the cells, said of what it answers and leaves: every row as before, no diagram with fewer nodes under the
-- new order, and 23 exactly where none fits.
-- Assumes nothing.
use Rattle.std.specs.Prelude.{Ok, IfOk}
use mathlib.Core.Path.{◌≡◌, sym, ap, ap₂, ◌∙◌, subst}
use mathlib.Core.Bool.{true, false}
use mathlib.Core.List.{List, ◌++◌}
use mathlib.Core.Logic.{◌↔◌}
use Prim.Native.Nat.{ℕ, ◌*◌, ◌≤◌, ◌<◌}
use native.Mathlib.Omega.{arith}
use borrow.Author.Tests.{le-leb, ltb-true, ltb-false}
use lib.Dec.{T, ltb, leb, leb→le}
use lib.ListN.{length, get_or, drop, length-append}
use Rattle.lists.specs.Written.{over}
use Rattle.lists.proofs.Bools.{split, to-T, absurd-T}
use Rattle.diagram.specs.Networks.Diagram.{Diagram}
use Rattle.diagram.specs.Table.{Table, cost, Computes}
use Rattle.diagram.specs.Demands.{Least, NoneFits}
use Rattle.diagram.proofs.Demands.{whole, right, least-cost, fits}
use Rattle.diagram.proofs.Networks.Count.{cost-nodes}
use Rattle.table.specs.Answer.{Answer}
use Rattle.table.specs.declared.Refusal.TheVariants.{TooSmall}
use Rattle.table.specs.declared.Done.{Done}
use Rattle.table.specs.declared.State.{State}
use Rattle.table.specs.Answer.{Outcome, unless, done, number, answer_of}
use Rattle.table.specs.State.{exchanged, reordered_state}
use Rattle.table.proofs.Outcomes.{outcome-answer, outcome-done, if-success}
use Rattle.lent.specs.Lent.{lent_diagram, numbers_of, roots_size}
use Rattle.network.specs.Build.{capacity, network_state}
use Rattle.swapping.specs.Swap.{cell_table, exchanged_order, swapped_network, swapped_count, swap_checks, swap_cells_answer}
use Rattle.swapping.specs.Swap.{swap_cells_outcome, swap_cells_roots, swap_cells_cells, Swapped}
use Rattle.network.proofs.LinksRead.LevelsRead.{numbers-length}
use Rattle.network.proofs.Building.LentNetwork.{lent-network, roots-length}
use Rattle.swapping.proofs.Checks.{Passed, passed, refused}
use Rattle.swapping.proofs.HeldLinks.{few', exchanges}

module _ (s : State) (p : ℕ) (work roots cells : List ℕ) where
  abbrev answered : Answer
  answered = swap_cells_answer s p work roots cells

  abbrev count : ℕ
  count = swapped_count s p roots cells

  abbrev t : Table
  t = cell_table s roots cells

  abbrev other : List ℕ
  other = exchanged_order s p

  -- a success passed the checks, and the board has room
  pub reached : done answered ≡ true → T (done (swap_checks s p work roots cells (Ok 0)))
  unfolding swap_cells_answer
  reached e =
      split (done (swap_checks s p work roots cells (Ok 0))) (λ q. to-T q)
      (λ q. absurd-T {b = true} tt
      (sym e ∙ ap done (refused s p work roots cells (unless (leb count (capacity cells)) (TooSmall count) (Ok 0)) q) ∙ q))

  module _ (P : Passed s p work roots cells) where
    board-answer : answered ≡ unless (leb count (capacity cells)) (TooSmall count) (Ok 0)
    unfolding swap_cells_answer
    board-answer = P.next (unless (leb count (capacity cells)) (TooSmall count) (Ok 0))

    pub has_room : done answered ≡ true → count ≤ capacity cells
    has_room e =
        let d : done (unless (leb count (capacity cells)) (TooSmall count) (Ok 0)) ≡ true = sym (ap done board-answer) ∙ e in
        split (leb count (capacity cells)) (λ q. leb→le count (capacity cells) (to-T q)) (λ q. absurd-T {b = true} tt (sym (rw q at d)))

    pub count-nodes : count ≡ length (swapped_network s p roots cells).nodes
    unfolding swapped_count swapped_network
    count-nodes = cost-nodes t other

    -- the cells and roots afterwards, as a diagram
    pub left-network : (rest : List ℕ)
        → lent_diagram count s.m (numbers_of (swapped_network s p roots cells).nodes ++ rest)
        (over (λ j. get_or (swapped_network s p roots cells).roots j 0) roots_size roots)
        ≡ swapped_network s p roots cells
    unfolding swapped_network
    left-network rest =
        let D = swapped_network s p roots cells in
        ap (λ (k : ℕ). lent_diagram k s.m (numbers_of D.nodes ++ rest) (over (λ j. get_or D.roots j 0) roots_size roots)) count-nodes
        ∙ lent-network D s.m (roots-length t other) (few' s p work roots cells P) rest roots

    -- of section 4's network itself
    swapped-network : (o : Done) → o.state.count ≡ count → (board : ℕ) → count ≤ board
        → Swapped s p roots cells o (swapped_network s p roots cells) board
    unfolding swapped_network swapped_count Computes
    swapped-network o e board h =
        let v = (exchanges s p work roots cells P).valid in
        let r = right true t other in
        record {
          solves = r;
          same = λ j row hj hr. r.computes j row hj hr ∙ whole true t other v (λ a b c d. tt) j row hj hr;
          counted = sym count-nodes ∙ sym e;
          fits = omega (arith, count-nodes);
          least = subst (Least true t other) (sym e) (least-cost t other v);
        }

    -- 23 exactly where none fits
    pub fit-swapped : (o : Outcome) → answer_of o ≡ answered → (number (answer_of o) ≡ 23) ↔ NoneFits true t other (capacity cells)
    unfolding swapped_count cost
    fit-swapped o e =
        let f = fits true t other (exchanges s p work roots cells P).valid (capacity cells) in
        let b : answer_of o ≡ unless (leb count (capacity cells)) (TooSmall count) (Ok 0) = e ∙ board-answer in
        split (leb count (capacity cells))
        (λ q. let d : number (answer_of o) ≡ 0 = ap number (rw q at b) in (
          λ z. absurd (omega (arith, d, z)),
          λ none. absurd (omega (arith, f.0 none, leb→le count (capacity cells) (to-T q))),
        ))
        (λ q. let d : number (answer_of o) ≡ 23 = ap number (rw q at b) in
        (λ z. f.1 (lt_of count (capacity cells) q), λ none. d))
      where
        lt_of : (a b : ℕ) → leb a b ≡ false → b < a
        lt_of a b q = split (ltb b a) (λ z. ltb-true b a z) (λ z. absurd-T {b = true} tt (sym (le-leb a b (ltb-false b a z)) ∙ q))

  -- of what the call answers and leaves
  module _ (o : Outcome) (eo : o ≡ swap_cells_outcome s p work roots cells) where
    answered-of : answer_of o ≡ answered
    unfolding swap_cells_outcome
    answered-of = ap answer_of eo ∙ outcome-answer answered (network_state (reordered_state s (exchanged p s.order)) count)

    pub swapped-left : (r c : List ℕ) → r ≡ swap_cells_roots s p work roots cells → c ≡ swap_cells_cells s p work roots cells
        → IfOk o (λ x. Swapped s p roots cells x (lent_diagram x.state.count s.m c r) (capacity c))
    unfolding swap_cells_outcome swap_cells_roots swap_cells_cells
    swapped-left r c er ec =
        if-success o (λ x. Swapped s p roots cells x (lent_diagram x.state.count s.m c r) (capacity c))
        (λ x ex. let (a, after) = outcome-done answered (network_state (reordered_state s (exchanged p s.order)) count) x (sym eo ∙ ex) in
        let d : done answered ≡ true = ap done a in
        let P = passed s p work roots cells (reached d) in
        let D = swapped_network s p roots cells in
        let rest = drop (3 * count) cells in
        let ks : x.state.count ≡ count = ap (λ (y : State). y.count) after in
        let er' : r ≡ over (λ j. get_or D.roots j 0) roots_size roots = er ∙ rw d in
        let ec' : c ≡ numbers_of D.nodes ++ rest = ec ∙ rw d in
        let left : lent_diagram x.state.count s.m c r ≡ D =
        ap (λ (k : ℕ). lent_diagram k s.m c r) ks ∙ ap₂ (lent_diagram count s.m) ec' er' ∙ left-network P rest in
        let room : count ≤ capacity c =
        omega (arith, ap length ec', length-append (numbers_of D.nodes) rest, numbers-length D.nodes, count-nodes P) in
        subst (λ (E : Diagram). Swapped s p roots cells x E (capacity c)) (sym left) (swapped-network P x ks (capacity c) room))

    pub fit-left : done (swap_checks s p work roots cells (Ok 0)) ≡ true
        → (number (answer_of o) ≡ 23) ↔ NoneFits true t other (capacity cells)
    fit-left e = fit-swapped (passed s p work roots cells (to-T e)) o answered-of
