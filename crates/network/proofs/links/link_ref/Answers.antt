-- `network::links::link_ref` meets its contract: the reference that is read stands in the work buffer's bytes, or past its end.
-- Assumes nothing.
use native.Mathlib.Omega.{arith}
use Rattle.fill.proofs.Buffers.Sizes.{work-size}
use Rattle.network.proofs.links.link_ref.Goals as goal

pub overflow_add-below : goal.overflow_add-below
overflow_add-below c =
    omega (arith, work-size)

pub stored_at-r-requires : goal.stored_at-r-requires
stored_at-r-requires c =
    omega (arith, work-size)
