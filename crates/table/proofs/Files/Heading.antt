-- The heading's order, as it is read.
-- Assumes nothing.
use mathlib.Core.Path.{◌≡◌, refl, ap, ◌∙◌}
use mathlib.Core.Bool.{Bool, true, false, cond, ◌&&◌}
use mathlib.Core.List.{List, map}
use Prim.Native.Nat.{ℕ, ◌+◌, ◌≤◌}
use lib.Dec.{ltb}
use lib.ListN.{take}
use Rattle.lists.specs.Lists.{up_to}
use Rattle.lists.proofs.Written.Filled.{first-listed}
use Rattle.diagram.specs.Networks.Bound.{most_variables}
use Rattle.diagram.specs.Orders.Order.{is_order}
use Rattle.block.specs.Block.{byte}
use Rattle.table.specs.File.{file_inputs, file_order}

pub second-false : (a : Bool) {b : Bool} → b ≡ false → a && b ≡ false
second-false true e = e
second-false false e = refl

-- the order read from the heading, with zeros past n
pub order_read : (file : List ℕ) (n : ℕ) → n ≡ file_inputs file → (b : Bool) (order : List ℕ) → n ≤ most_variables
    → order ≡ map (λ p. cond (ltb p n) (byte file 0 (6 + p)) 0) (up_to most_variables)
    → b ≡ is_order n (take n order) → b ≡ is_order (file_inputs file) (file_order file)
order_read file n e b order h q i =
    i ∙ ap (λ (l : List ℕ). is_order n (take n l)) q ∙ ap (is_order n) (first-listed (λ p. byte file 0 (6 + p)) n most_variables h)
    ∙ ap (λ (k : ℕ). is_order k (map (λ p. byte file 0 (6 + p)) (up_to k))) e
