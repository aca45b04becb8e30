-- What a build leaves is a well-formed diagram, and evaluating any row gives the filled table's bits.
-- Assumes nothing.
use Rattle.std.specs.Prelude.{Ok}
use mathlib.Core.Path.{◌≡◌, ap, ap₂, ◌∙◌, subst}
use mathlib.Core.Bool.{true, not}
use mathlib.Core.List.{List, ◌++◌}
use Prim.Native.Nat.{ℕ, ◌*◌, ◌/◌, ◌^◌, ◌≤◌, ◌<◌}
use native.Mathlib.Omega.{arith}
use lib.Dec.{T}
use borrow.Author.Tests.{le-leb, lt-ltb}
use lib.ListN.{length, get_or, drop}
use Rattle.lists.specs.Bits.{packed}
use Rattle.lists.specs.Written.{over}
use Rattle.lists.proofs.Bools.{split, of_T}
use Rattle.lists.proofs.Bits.Packed.{packed-cong}
use Rattle.lists.proofs.Written.Over.{length_over, get_d_over}
use Rattle.diagram.specs.Networks.Diagram.{Diagram, well_formed, gives}
use Rattle.diagram.specs.Networks.Bound.{most_outputs}
use Rattle.diagram.specs.Orders.Order.{row_under}
use Rattle.diagram.specs.Table.{filled_bit, Computes}
use Rattle.diagram.proofs.Demands.{right}
use Rattle.table.specs.declared.State.{State}
use Rattle.table.specs.State.{good_heading, order_of, stage_of, is_nothing, is_network}
use Rattle.table.proofs.Held.{few-outputs, stage-bad}
use Rattle.fill.specs.Calls.{held_table}
use Rattle.lent.specs.Lent.{lent_diagram, numbers_of, roots_size}
use Rattle.lent.specs.Evaluate.{good_cells, row_outputs, evaluate_answer}
use Rattle.lent.proofs.Sizes.{roots-size}
use Rattle.network.specs.Build.{held_network, wanted, capacity, network_state}
use Rattle.network.proofs.Building.HeldRead.{wanted-nodes}
use Rattle.network.proofs.Building.LentNetwork.{stored-length, cells-enough, lent-held}

-- the state that a build leaves holds a network
pub network-stage : (s : State) (count : ℕ) → T (not (is_nothing (stage_of s))) → is_network (stage_of (network_state s count)) ≡ true
unfolding stage_of
network-stage s count held =
    split (good_heading s.n s.m (order_of s)) (λ e. rw e)
    (λ e. absurd (subst (λ st. T (not (is_nothing st))) (stage-bad s e) held))

-- the cells and the roots that a build leaves
abbrev pub built_cells : State → List ℕ → List ℕ → List ℕ → List ℕ
built_cells s values care cells = numbers_of (held_network s values care).nodes ++ drop (3 * wanted s values care) cells

abbrev pub built_roots : State → List ℕ → List ℕ → List ℕ → List ℕ
built_roots s values care roots = over (λ j. get_or (held_network s values care).roots j 0) roots_size roots

module _ (s : State) (values care roots cells : List ℕ) (held : T (not (is_nothing (stage_of s)))) where
  formed : well_formed true s.n s.m (lent_diagram (wanted s values care) s.m (built_cells s values care cells)
      (built_roots s values care roots)) ≡ true
  unfolding held_network
  formed =
      ap (well_formed true s.n s.m) (lent-held s values care held cells roots)
      ∙ of_T (right true (held_table s values care) (order_of s)).formed

  -- the cells and the roots pass the test of number 24
  pub good-built : good_cells (network_state s (wanted s values care)) (built_roots s values care roots) (built_cells s values care cells)
      ≡ true
  unfolding good_cells
  good-built =
      rw (le-leb (wanted s values care) (length (built_cells s values care cells) / 3) (cells-enough s values care cells), formed)

  -- the cells are as many as were lent
  pub cells-built : wanted s values care ≤ capacity cells → length (built_cells s values care cells) ≡ length cells
  cells-built = stored-length (held_network s values care).nodes (wanted s values care) cells (wanted-nodes s values care)

  -- the roots are as many as were lent
  pub roots-built : roots_size ≤ length roots → roots_size ≤ length (built_roots s values care roots)
  roots-built h = omega (arith, length_over (λ j. get_or (held_network s values care).roots j 0) roots_size roots h)

module _ (s : State) (values care roots cells : List ℕ) (held : T (not (is_nothing (stage_of s))))
    (long : most_outputs ≤ length roots) (row : ℕ) (known : row < 2 ^ s.n) where
  root-there : (j : ℕ) → j < s.m → get_or (built_roots s values care roots) j 0 ≡ get_or (held_network s values care).roots j 0
  root-there j h =
      get_d_over (λ k. get_or (held_network s values care).roots k 0) roots_size roots j 0 (omega (arith, few-outputs s held, roots-size))

  -- every row's outputs are the filled table's
  pub built-row : row_outputs (network_state s (wanted s values care)) row (built_roots s values care roots) (built_cells s values care cells)
      ≡ packed s.m (λ j. filled_bit true (held_table s values care) (order_of s) j row)
  unfolding row_outputs held_network Computes
  built-row =
      let D = lent_diagram (wanted s values care) s.m (built_cells s values care cells) (built_roots s values care roots) in
      packed-cong s.m (λ j. gives true D (row_under s.n (order_of s) row) s.n (get_or (built_roots s values care roots) j 0))
      (λ j. filled_bit true (held_table s values care) (order_of s) j row)
      (λ j h.
      ap₂ (λ (E : Diagram) (r : ℕ). gives true E (row_under s.n (order_of s) row) s.n r) (lent-held s values care held cells roots)
      (root-there j h)
      ∙ (right true (held_table s values care) (order_of s)).computes j row h known)

  -- so evaluating after a build answers them
  pub evaluate-built : evaluate_answer (network_state s (wanted s values care)) row (built_roots s values care roots)
      (built_cells s values care cells)
      ≡ Ok (packed s.m (λ j. filled_bit true (held_table s values care) (order_of s) j row))
  unfolding evaluate_answer
  evaluate-built =
      rw (
        le-leb roots_size (length (built_roots s values care roots)) (roots-built s values care roots cells held (omega (arith, roots-size))),
        network-stage s (wanted s values care) held,
        lt-ltb row (2 ^ s.n) known,
        good-built s values care roots cells held,
      )
      (ap Ok built-row)
