-- Swapping twice at the same place gives the order, the count, the counted cells and the roots back, whatever work buffer is lent.
-- Assumes nothing.
use Rattle.std.specs.Prelude.{Ok}
use mathlib.Core.Path.{◌≡◌, refl, sym, ap, ap₂, ◌∙◌, subst}
use mathlib.Core.Bool.{true}
use mathlib.Core.List.{List, [], ◌∷◌, ◌++◌}
use Prim.Native.Nat.{ℕ, zero, suc, ◌*◌, ◌/◌, ◌≤◌, ◌<◌}
use native.Mathlib.Nat.{not-suc-le-zero, le_of_suc-le-suc, min-le_right}
use native.Mathlib.Omega.{arith}
use borrow.Author.Tests.{le-leb}
use lib.Dec.{T, eqb→eq, ltb, leb, lt→ltb}
use lib.ListN.{length, get_or, take, drop, length-take}
use Rattle.lists.specs.Written.{over}
use Rattle.lists.proofs.Bools.{split, of_T, absurd-T}
use Rattle.lists.proofs.Numbers.UpTo.{length-map-up_to}
use Rattle.lists.proofs.Written.Over.{length_over}
use Rattle.diagram.specs.Networks.Diagram.{Diagram, well_formed}
use Rattle.diagram.specs.Orders.Order.{is_order}
use Rattle.diagram.specs.Table.{network_of}
use Rattle.diagram.specs.Canonical.Computed.{computed_table, canonical}
use Rattle.diagram.proofs.Orders.Order.{order-length}
use Rattle.diagram.proofs.Networks.Evaluate.{formed-length}
use Rattle.diagram.proofs.Demands.{filled-length, right}
use Rattle.diagram.proofs.Canonical.NetworkIff.{network-canonical}
use Rattle.diagram.proofs.Networks.SameTable.{exchanged-back}
use Rattle.diagram.proofs.Networks.Count.{cost-nodes}
use Rattle.table.specs.Answer.{Answer}
use Rattle.table.specs.declared.Refusal.TheVariants.{TooSmall}
use Rattle.table.specs.declared.State.{State}
use Rattle.table.specs.declared.Stage.{Stage}
use Rattle.table.specs.declared.Stage.TheVariants.{Nothing, Table as AtTable, Network}
use Rattle.table.specs.Answer.{unless, done, state_after}
use Rattle.table.proofs.Outcomes.{outcome-state}
use Rattle.table.specs.State.{good_heading, order_of, stage_of, is_network, exchanged, reordered_state}
use Rattle.table.proofs.Held.{good-order, stage-bad, stage-good, few-inputs, few-outputs, some-outputs, ordered}
use Rattle.fill.specs.Work.{work_size}
use Rattle.lent.specs.Lent.{lent_node, lent_diagram, numbers_of, roots_size}
use Rattle.lent.specs.Evaluate.{good_cells}
use Rattle.swapping.specs.Swap.{held_diagram, cell_table, exchanged_order, swapped_network, swapped_count, swap_checks, swap_cells_answer}
use Rattle.swapping.specs.Swap.{swap_cells_outcome, swap_cells_roots, swap_cells_cells}
use Rattle.network.specs.Build.{capacity, network_state}
use Rattle.network.proofs.Building.LentNetwork.{stored-length, lent-network}
use Rattle.swapping.proofs.Checks.{Passed, passed}
use Rattle.swapping.proofs.HeldLinks.{exchanges}
use Rattle.swapping.proofs.Kept.{reached, has_room, count-nodes, left-network}

-- two entries exchanged twice
exchanged-twice : (p : ℕ) (l : List ℕ) → suc p < length l → exchanged p (exchanged p l) ≡ l
exchanged-twice p [] h = absurd (not-suc-le-zero h)
exchanged-twice zero (x ∷ []) h = absurd (not-suc-le-zero (le_of_suc-le-suc h))
exchanged-twice zero (x ∷ y ∷ l) h = refl
exchanged-twice (suc p) (x ∷ l) h = ap (λ (m : List ℕ). x ∷ m) (exchanged-twice p l (le_of_suc-le-suc h))

-- a held network's stage is network
stage-network : (s : State) → is_network (stage_of s) ≡ true → s.stage ≡ Network
stage-network s e =
    split (good_heading s.n s.m (order_of s))
    (λ q. network-stage s.stage (sym (ap is_network (stage-good s q)) ∙ e))
    (λ q. absurd-T {b = true} tt (sym e ∙ ap is_network (stage-bad s q)))
  where
    network-stage : (t : Stage) → is_network t ≡ true → t ≡ Network
    network-stage Nothing e = absurd-T {b = true} tt (sym e)
    network-stage AtTable e = absurd-T {b = true} tt (sym e)
    network-stage Network e = refl

-- the exchanged order keeps the heading's rules
pub heading-left : (s : State) (p : ℕ) (work roots cells : List ℕ) → Passed s p work roots cells
    → good_heading s.n s.m (exchanged_order s p) ≡ true
heading-left s p work roots cells P =
    let held = P.tested.held in
    good-order s.n s.m (exchanged_order s p) (few-inputs s held) (λ e. absurd (omega (arith, some-outputs s held, e)))
    (few-outputs s held)
    ∙ of_T (exchanges s p work roots cells P).valid

module _ (s : State) (p : ℕ) (work roots cells : List ℕ) (P : Passed s p work roots cells)
    (room : swapped_count s p roots cells ≤ capacity cells) (work₂ : List ℕ) (long : work_size ≤ length work₂) where
  abbrev D : Diagram
  D = held_diagram s roots cells

  abbrev other : List ℕ
  other = exchanged_order s p

  abbrev E : Diagram
  E = swapped_network s p roots cells

  abbrev count : ℕ
  count = swapped_count s p roots cells

  -- what the first swap leaves
  abbrev s' : State
  s' = network_state (reordered_state s (exchanged p s.order)) count

  abbrev roots' : List ℕ
  roots' = over (λ j. get_or E.roots j 0) roots_size roots

  abbrev cells' : List ℕ
  cells' = numbers_of E.nodes ++ drop (3 * count) cells

  valid : T (is_order s.n other)
  valid = (exchanges s p work roots cells P).valid

  same_length : length cells' ≡ length cells
  same_length = stored-length E.nodes count cells (count-nodes s p work roots cells P) room

  left : held_diagram s' roots' cells' ≡ E
  left = left-network s p work roots cells P (drop (3 * count) cells)

  formed : T (well_formed true s.n s.m E)
  unfolding swapped_network
  formed = (right true (cell_table s roots cells) other).formed

  network : canonical true s.n s.m other E ≡ true
  unfolding swapped_network network_of
  network = network-canonical true s.n s.m other _ valid (filled-length true (cell_table s roots cells) other)

  -- the second passes every check
  checks : (x : Answer) → swap_checks s' p work₂ roots' cells' x ≡ x
  unfolding swap_checks good_cells
  checks x =
      let w : leb work_size (length work₂) ≡ true = le-leb work_size (length work₂) long in
      let r : leb roots_size (length roots') ≡ true =
      le-leb roots_size (length roots')
      (omega (arith, length_over (λ j. get_or E.roots j 0) roots_size roots P.tested.long, P.tested.long)) in
      let n : is_network (stage_of s') ≡ true = ap is_network (stage-good s' (heading-left s p work roots cells P)) in
      let q : ltb (suc p) s.n ≡ true = of_T (lt→ltb (suc p) s.n P.place) in
      let b : leb count (length cells' / 3) ≡ true =
      le-leb count (length cells' / 3) (subst (λ (k : ℕ). count ≤ k / 3) (sym same_length) room) in
      let f : well_formed true s.n s.m (held_diagram s' roots' cells') ≡ true =
      ap (well_formed true s.n s.m) left ∙ of_T formed in
      let c : canonical true s.n s.m other (held_diagram s' roots' cells') ≡ true =
      ap (canonical true s.n s.m other) left ∙ network in
      rw (w, r, n, q, b, f, c)

  order-back : exchanged p (exchanged p s.order) ≡ s.order
  order-back =
      exchanged-twice p s.order
      (omega (arith, P.place, order-length s.n (order_of s) (ordered s P.tested.held), length-take-most s.n s.order))
    where
      length-take-most : (k : ℕ) (l : List ℕ) → length (take k l) ≤ length l
      length-take-most k l = subst (λ (m : ℕ). m ≤ length l) (sym (length-take k l)) (min-le_right k (length l))

  back : swapped_network s' p roots' cells' ≡ D
  unfolding swapped_network
  back =
      ap₂ (λ (F : Diagram) (o : List ℕ). network_of true (computed_table true s.n s.m other F) (take s.n o)) left order-back
      ∙ exchanged-back true s.n s.m (order_of s) other D (ordered s P.tested.held) valid P.tested.formed P.tested.network

  nodes-back : length D.nodes ≡ s.count
  unfolding lent_diagram
  nodes-back = length-map-up_to (lent_node cells) s.count

  count-back : swapped_count s' p roots' cells' ≡ s.count
  unfolding swapped_count swapped_network
  count-back = cost-nodes (cell_table s' roots' cells') (exchanged_order s' p) ∙ ap (λ (F : Diagram). length F.nodes) back ∙ nodes-back

  pub answer_back : swap_cells_answer s' p work₂ roots' cells' ≡ Ok 0
  unfolding swap_cells_answer
  answer_back =
      let e : leb (swapped_count s' p roots' cells') (capacity cells') ≡ true =
      le-leb (swapped_count s' p roots' cells') (capacity cells')
      (omega (arith, count-back, P.tested.enough, ap (λ (k : ℕ). k / 3) same_length)) in
      checks (unless (leb (swapped_count s' p roots' cells') (capacity cells')) (TooSmall (swapped_count s' p roots' cells')) (Ok 0)) ∙ rw e

  pub state-back : swap_cells_outcome s' p work₂ roots' cells' ≡ Ok (record { value = 0; state = s })
  unfolding swap_cells_outcome
  state-back =
      let e : network_state (reordered_state s' (exchanged p s'.order)) (swapped_count s' p roots' cells') ≡ s =
      ap₂ (λ (o : List ℕ) (k : ℕ). record { n = s.n; m = s.m; order = o; count = k; stage = Network }) order-back count-back
      ∙ ap (λ (g : Stage). record { n = s.n; m = s.m; order = s.order; count = s.count; stage = g }) (sym (stage-network s P.network)) in
      rw answer_back (ap (λ (x : State). Ok (record { value = 0; state = x })) e)

  pub network-back : lent_diagram s.count s.m (swap_cells_cells s' p work₂ roots' cells') (swap_cells_roots s' p work₂ roots' cells') ≡ D
  unfolding swap_cells_cells swap_cells_roots
  network-back =
      let f : done (swap_cells_answer s' p work₂ roots' cells') ≡ true = ap done answer_back in
      let rest = drop (3 * swapped_count s' p roots' cells') cells' in
      rw f
      (ap (λ (F : Diagram). lent_diagram s.count s.m (numbers_of F.nodes ++ rest) (over (λ j. get_or F.roots j 0) roots_size roots')) back
      ∙ ap (λ (k : ℕ). lent_diagram k s.m (numbers_of D.nodes ++ rest) (over (λ j. get_or D.roots j 0) roots_size roots')) (sym nodes-back)
      ∙ lent-network D s.m (eqb→eq (length D.roots) s.m (formed-length true s.n s.m D P.tested.formed))
      (few-outputs s P.tested.held) rest roots')

-- said of what the first call leaves
module _ (s : State) (p : ℕ) (work roots cells : List ℕ) (d : done (swap_cells_answer s p work roots cells) ≡ true) (work₂ : List ℕ)
    (long : work_size ≤ length work₂) where
  abbrev first : State
  first = state_after s (swap_cells_outcome s p work roots cells)

  abbrev roots₁ : List ℕ
  roots₁ = swap_cells_roots s p work roots cells

  abbrev cells₁ : List ℕ
  cells₁ = swap_cells_cells s p work roots cells

  left-by : done (swap_cells_answer s p work roots cells) ≡ true
      → state_after s (swap_cells_outcome s p work roots cells)
      ≡ network_state (reordered_state s (exchanged p s.order)) (swapped_count s p roots cells)
  unfolding swap_cells_outcome
  left-by = outcome-state (swap_cells_answer s p work roots cells) s
      (network_state (reordered_state s (exchanged p s.order)) (swapped_count s p roots cells))

  -- the answer 0, and the very state
  pub swapped-twice : swap_cells_outcome first p work₂ roots₁ cells₁ ≡ Ok (record { value = 0; state = s })
  unfolding swap_cells_outcome swap_cells_roots swap_cells_cells
  swapped-twice =
      let P = passed s p work roots cells (reached s p work roots cells d) in
      rw (d, left-by d) (state-back s p work roots cells P (has_room s p work roots cells P d) work₂ long)

  -- the counted cells and the roots
  pub twice-network : lent_diagram s.count s.m (swap_cells_cells first p work₂ roots₁ cells₁) (swap_cells_roots first p work₂ roots₁ cells₁)
      ≡ held_diagram s roots cells
  unfolding swap_cells_outcome swap_cells_roots swap_cells_cells
  twice-network =
      let P = passed s p work roots cells (reached s p work roots cells d) in
      rw (d, left-by d) (network-back s p work roots cells P (has_room s p work roots cells P d) work₂ long)
