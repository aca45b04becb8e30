-- The state that a network file's heading says: its order, and that it holds a network.
-- Assumes nothing.
use mathlib.Core.Path.{◌≡◌, ap, ◌∙◌}
use mathlib.Core.Bool.{true}
use mathlib.Core.List.{List}
use Prim.Native.Nat.{ℕ, ◌+◌}
use native.Mathlib.Omega.{arith}
use Rattle.lists.proofs.Bools.{of_T}
use Rattle.lists.proofs.Written.Filled.{first-listed}
use Rattle.diagram.specs.Networks.Bound.{most_variables}
use Rattle.diagram.specs.Orders.Order.{is_order}
use Rattle.block.specs.Block.{byte}
use Rattle.table.specs.State.{order_of, stage_of, is_network}
use Rattle.table.specs.File.{file_inputs, file_outputs, file_order}
use Rattle.table.proofs.Files.Accepted.{AcceptedShape}
use Rattle.table.proofs.Held.{good-order, stage-good}
use Rattle.network_file.specs.Read.{read_state}

module _ (file : List ℕ) (a : AcceptedShape file) where
  pub order-of : order_of (read_state file) ≡ file_order file
  order-of = first-listed (λ p. byte file 0 (6 + p)) (file_inputs file) most_variables a.inputs

  pub network-state : is_network (stage_of (read_state file)) ≡ true
  network-state =
      ap is_network
      (stage-good (read_state file)
      (good-order (file_inputs file) (file_outputs file) (order_of (read_state file)) a.inputs (λ e. omega (arith, a.one-output))
      a.outputs
      ∙ ap (is_order (file_inputs file)) order-of ∙ of_T a.order))
