-- `lent::follow::selected_edge` meets its contract: each product, and so the sum, is an edge or 0. Assumes nothing.
use borrow.Author.Rules.{rules}
use Prim.Native.Nat.{◌^◌}
use native.Mathlib.Omega.{arith}
use Rattle.lent.proofs.SelectedEdge.{selects, product-fits, sum_fits}
use Rattle.lent.proofs.follow.selected_edge.Goals as goal

pub overflow_mul-result : goal.overflow_mul-result
overflow_mul-result c =
    record { fits = product-fits _ _ (2 ^ 64) (omega arith) (search rules) }

pub overflow_mul-result-2 : goal.overflow_mul-result-2
overflow_mul-result-2 c =
    record { fits = product-fits _ _ (2 ^ 64) c.requires (search rules) }

pub overflow_add-result : goal.overflow_add-result
overflow_add-result c =
    record { fits = sum_fits c.args.bit _ _ (2 ^ 64) c.requires (search rules) (search rules) }

pub returns : goal.returns
returns c =
    let a = c.args in selects a.bit a.low a.high c.requires
