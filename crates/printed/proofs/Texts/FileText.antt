-- The lines of a state that holds a network, of the network and the order alone: no entry past n, no lent number past the network's.
-- Assumes nothing.
use mathlib.Core.Path.{◌≡◌, refl, sym, ap, ap₂, ◌∙◌}
use mathlib.Core.Bool.{not}
use mathlib.Core.List.{List, ◌++◌, append_assoc}
use Prim.Native.Nat.{ℕ, zero, suc, ◌+◌, ◌*◌, ◌/◌, ◌≤◌, ◌<◌, min}
use native.Mathlib.Omega.{arith}
use borrow.Author.Tests.{le-leb}
use lib.Dec.{T}
use lib.ListN.{length, get_or, length-append, get_or-append}
use lib.Seq.{get_or-take}
use Rattle.lists.specs.Written.{over}
use Rattle.lists.proofs.Bools.{of_T}
use Rattle.lists.proofs.Written.Over.{get_d_over}
use Rattle.diagram.specs.Networks.Bound.{most_variables}
use Rattle.diagram.specs.Networks.Diagram.{Node, Diagram}
use Rattle.table.specs.declared.Stage.TheVariants.{Network}
use Rattle.table.specs.declared.State.{State}
use Rattle.table.specs.Answer.{value}
use Rattle.table.specs.Stream.{cared_bits}
use Rattle.table.specs.State.{order_of, stage_of, is_nothing}
use Rattle.table.specs.Calls.{plane_size, cared_answer}
use Rattle.table.proofs.Held.{stage-good, held-heading, few-inputs, few-outputs}
use Rattle.lent.specs.Lent.{numbers_of, roots_size}
use Rattle.lent.proofs.Sizes.{roots-size}
use Rattle.network.specs.Build.{network_state}
use Rattle.network.proofs.LinksRead.LevelsRead.{numbers-length}
use Rattle.text.specs.Text.{inputs-keyword, outputs-keyword, spaced, in_turn, line, order_line, node_text, cell_line}
use Rattle.text.specs.Text.{root_line, network_lines, held_lines, state_order, total_lines, heading_lines, network_text}

in-turn-same : (f g : ℕ → List ℕ) (k : ℕ) → ((i : ℕ) → i < k → f i ≡ g i) → in_turn f k ≡ in_turn g k
in-turn-same f g zero h = refl
in-turn-same f g (suc k) h = ap₂ ◌++◌ (in-turn-same f g k (λ i l. h i (omega arith))) (h k (omega arith))

-- the cells' lines, whatever is lent past their numbers
module _ (ns : List Node) (rest : List ℕ) where
  cell_same : (i : ℕ) → i < length ns → cell_line (numbers_of ns ++ rest) i ≡ cell_line (numbers_of ns) i
  unfolding cell_line node_text
  cell_same i h =
      rw (
        get_or-append (numbers_of ns) rest 0 (3 * i) (omega (arith, numbers-length ns)),
        get_or-append (numbers_of ns) rest 0 (3 * i + 1) (omega (arith, numbers-length ns)),
        get_or-append (numbers_of ns) rest 0 (3 * i + 2) (omega (arith, numbers-length ns)),
      )

  cells_same : in_turn (cell_line (numbers_of ns ++ rest)) (min (length ns) (length (numbers_of ns ++ rest) / 3))
      ≡ in_turn (cell_line (numbers_of ns)) (min (length ns) (length (numbers_of ns) / 3))
  cells_same =
      let a : min (length ns) (length (numbers_of ns ++ rest) / 3) ≡ length ns =
      omega (arith, length-append (numbers_of ns) rest, numbers-length ns) in
      let b : min (length ns) (length (numbers_of ns) / 3) ≡ length ns = omega (arith, numbers-length ns) in
      ap (in_turn (cell_line (numbers_of ns ++ rest))) a
      ∙ in-turn-same (cell_line (numbers_of ns ++ rest)) (cell_line (numbers_of ns)) (length ns) cell_same
      ∙ ap (in_turn (cell_line (numbers_of ns))) (sym b)

-- the roots' lines, whatever was lent
roots-same : (listed roots : List ℕ) (m : ℕ) → m ≤ roots_size
    → in_turn (root_line (over (λ j. get_or listed j 0) roots_size roots)) m ≡ in_turn (root_line listed) m
unfolding root_line
roots-same listed roots m h =
    in-turn-same (root_line (over (λ j. get_or listed j 0) roots_size roots)) (root_line listed) m
    (λ i l. rw (get_d_over (λ j. get_or listed j 0) roots_size roots i 0 (omega arith)))

module _ (s : State) (care roots cells : List ℕ) (D : Diagram) (held : T (not (is_nothing (stage_of s))))
    (long : plane_size ≤ length care) where
  -- the state after the build
  abbrev after : State
  after = network_state s (length D.nodes)

  abbrev numbers : List ℕ
  numbers = numbers_of D.nodes ++ cells

  abbrev references : List ℕ
  references = over (λ j. get_or D.roots j 0) roots_size roots

  stage-after : stage_of after ≡ Network
  stage-after = stage-good after (of_T (held-heading s held))

  cared-after : value (cared_answer after care) ≡ cared_bits s.n s.m care
  unfolding cared_answer
  cared-after = rw (le-leb plane_size (length care) long, stage-after)

  order-after : state_order after ≡ order_line s.n (order_of s)
  unfolding state_order order_line
  order-after =
      let e : min s.n most_variables ≡ s.n = omega (arith, few-inputs s held) in
      let f : ℕ → List ℕ = λ i. spaced (get_or s.order i 0) in
      let g : ℕ → List ℕ = λ i. spaced (get_or (order_of s) i 0) in
      rw (ap (in_turn f) e ∙ in-turn-same f g s.n (λ i h. ap spaced (sym (get_or-take s.n s.order i 0 h))))

  held_after : held_lines after references numbers ≡ network_lines (length D.nodes) s.m D.roots (numbers_of D.nodes)
  unfolding held_lines network_lines
  held_after =
      rw stage-after
      (ap₂ ◌++◌ (cells_same D.nodes cells) (roots-same D.roots roots s.m (omega (arith, few-outputs s held, roots-size))))

  -- section 8's lines, of the numbers of inputs and outputs, the order, the care and the network
  pub text-after : network_text after (value (cared_answer after care)) references numbers
      ≡ line inputs-keyword s.n ++ (line outputs-keyword s.m ++ (order_line s.n (order_of s)
      ++ (total_lines (cared_bits s.n s.m care) (length D.nodes)
      ++ network_lines (length D.nodes) s.m D.roots (numbers_of D.nodes))))
  unfolding network_text heading_lines
  text-after = rw (cared-after, order-after, held_after) (simp append_assoc)
