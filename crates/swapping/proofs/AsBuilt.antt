-- Where the held network is a fully cared table's and the board is enough, swapping in the cells leaves what swapping the order and
-- building leave: the state, the roots, the cells and the work buffer, bit for bit. It holds of any such network, and so of one that a
-- build left.
-- Assumes nothing.
use Rattle.std.specs.Prelude.{Ok}
use mathlib.Core.Path.{◌≡◌, sym, ap, ap₂, ◌∙◌}
use mathlib.Core.Bool.{true, not}
use mathlib.Core.List.{List, ◌++◌}
use Prim.Native.Nat.{ℕ, suc, ◌*◌, ◌/◌, ◌≤◌}
use native.Mathlib.Omega.{arith}
use borrow.Author.Tests.{le-leb, lt-ltb}
use lib.Dec.{leb}
use lib.ListN.{length, get_or, drop}
use Rattle.lists.specs.Written.{over}
use Rattle.diagram.specs.Networks.Diagram.{Diagram}
use Rattle.diagram.specs.Table.{Table, FullyCared, network_of, cost}
use Rattle.diagram.specs.Canonical.Computed.{computed_table}
use Rattle.diagram.proofs.Networks.SameTable.{exchanged-cared}
use Rattle.table.specs.declared.Refusal.TheVariants.{TooSmall}
use Rattle.table.specs.declared.State.{State}
use Rattle.table.specs.Answer.{unless, done, state_after}
use Rattle.table.specs.State.{order_of, stage_of, is_nothing, exchanged, reordered_state}
use Rattle.table.specs.Calls.{plane_size}
use Rattle.table.proofs.Held.{stage-good, ordered}
use Rattle.fill.specs.Work.{work_size}
use Rattle.fill.specs.Calls.{held_table}
use Rattle.lent.specs.Lent.{numbers_of, roots_size}
use Rattle.network.specs.Build.{held_network, wanted, capacity, network_state, build_answer, build_outcome, build_roots}
use Rattle.network.specs.Build.{build_cells, build_work}
use Rattle.swapping.specs.Swap.{held_diagram, exchanged_order, swapped_network, swapped_count, swap_checks, swap_cells_answer}
use Rattle.swapping.specs.Swap.{swap_cells_outcome, swap_cells_roots, swap_cells_cells, swap_cells_work}
use Rattle.swapping.specs.AsBuilt.{Agree, AsBuilt}
use Rattle.network.proofs.Building.HeldRead.{wanted-nodes}
use Rattle.network.proofs.Building.LentNetwork.{lent-held}
use Rattle.network.proofs.Building.Outcomes.{succeeded, done-outcome, done-roots, done-cells}
use Rattle.network.proofs.Building.BuiltRows.{built_cells, built_roots, network-stage, good-built, cells-built, roots-built}
use Rattle.network.proofs.Building.BuiltCanonical.{canonical-built}
use Rattle.swapping.proofs.Checks.{Passed, passed, swapped-done}
use Rattle.swapping.proofs.Kept.{count-nodes}
use Rattle.swapping.proofs.Twice.{heading-left}

-- any network of the held table that passes the checks before 23
module _ (s : State) (p : ℕ) (values care work roots cells : List ℕ) (P : Passed s p work roots cells) (hv : plane_size ≤ length values)
    (hc : plane_size ≤ length care) (full : FullyCared (held_table s values care))
    (held : held_diagram s roots cells ≡ held_network s values care)
    (room : cost (held_table s values care) (exchanged_order s p) ≤ capacity cells) where
  abbrev t : Table
  t = held_table s values care

  -- the state that a swap of the order leaves
  abbrev after : State
  after = reordered_state s (exchanged p s.order)

  -- the same network
  same-network : swapped_network s p roots cells ≡ held_network after values care
  unfolding swapped_network held_network
  same-network =
      ap (λ (E : Diagram). network_of true (computed_table true s.n s.m (order_of s) E) (exchanged_order s p)) held
      ∙ exchanged-cared true t (order_of s) (ordered s P.tested.held) full (exchanged_order s p)

  same_count : swapped_count s p roots cells ≡ wanted after values care
  same_count =
      count-nodes s p work roots cells P ∙ ap (λ (E : Diagram). length E.nodes) same-network ∙ sym (wanted-nodes after values care)

  room_after : leb (wanted after values care) (capacity cells) ≡ true
  unfolding wanted
  room_after = le-leb (cost t (exchanged_order s p)) (capacity cells) room

  swaps : swap_cells_answer s p work roots cells ≡ Ok 0
  unfolding swap_cells_answer
  swaps =
      let k = swapped_count s p roots cells in
      let b : leb k (capacity cells) ≡ true = ap (λ (x : ℕ). leb x (capacity cells)) same_count ∙ room_after in
      P.next (unless (leb k (capacity cells)) (TooSmall k) (Ok 0)) ∙ rw b

  builds : build_answer after values care work roots cells ≡ Ok (wanted after values care)
  unfolding build_answer
  builds =
      let v : leb plane_size (length values) ≡ true = le-leb plane_size (length values) hv in
      let c : leb plane_size (length care) ≡ true = le-leb plane_size (length care) hc in
      let w : leb work_size (length work) ≡ true = le-leb work_size (length work) P.enough in
      let r : leb roots_size (length roots) ≡ true = le-leb roots_size (length roots) P.tested.long in
      let h : not (is_nothing (stage_of after)) ≡ true =
      ap (λ g. not (is_nothing g)) (stage-good after (heading-left s p work roots cells P)) in
      rw (v, c, w, r, h, room_after)

  agree-held : Agree s p values care work roots cells
  unfolding build_outcome swap_cells_outcome build_roots swap_cells_roots build_cells swap_cells_cells build_work swap_cells_work
  agree-held =
      let a = swapped-done s p work roots cells P in
      let d : done (swap_cells_answer s p work roots cells) ≡ true = ap done swaps in
      let b : done (build_answer after values care work roots cells) ≡ true = ap done builds in
      record {
        answer = swaps;
        same-state = rw (a, swaps, builds) (ap (network_state after) same_count);
        same-roots = rw (a, d, b) (ap (λ (E : Diagram). over (λ j. get_or E.roots j 0) roots_size roots) same-network);
        same-cells =
            rw (a, d, b) (ap₂ (λ (E : Diagram) (k : ℕ). numbers_of E.nodes ++ drop (3 * k) cells) same-network same_count);
        same-work = rw (a, d, b);
      }

-- the two ways agree on what a build left: it passes the checks, and its network is the table's
pub as-built : AsBuilt
unfolding AsBuilt held_network swap_checks
as-built s p values care work₀ roots cells work d full room place long =
    let B = succeeded s values care work₀ roots cells d in
    let k = wanted s values care in
    let r = built_roots s values care roots in
    let c = built_cells s values care cells in
    let P : Passed (network_state s k) p work r c =
    passed (network_state s k) p work r c
    (rw (
      le-leb work_size (length work) long,
      le-leb roots_size (length r) (roots-built s values care roots cells B.held B.long-roots),
      network-stage s k B.held,
      lt-ltb (suc p) s.n place,
      good-built s values care roots cells B.held,
      canonical-built s values care roots cells B.held,
    )
    tt) in
    rw (
      ← ap (state_after s) (done-outcome s values care work₀ roots cells B.answer),
      ← done-roots s values care work₀ roots cells B.answer,
      ← done-cells s values care work₀ roots cells B.answer,
    )
    (agree-held (network_state s k) p values care work r c P B.long-values B.long-care full
    (lent-held s values care B.held cells roots)
    (omega (arith, ap (λ (x : ℕ). x / 3) (cells-built s values care roots cells B.held B.room))))
