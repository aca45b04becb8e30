-- Number 32 never comes up behind a build: what it leaves is section 4's network of what it computes.
-- Assumes nothing.
use Rattle.std.specs.Prelude.{Ok}
use mathlib.Core.Path.{◌≡◌}
use mathlib.Core.Bool.{not}
use mathlib.Core.List.{List}
use Prim.Native.Nat.{ℕ, ◌≤◌}
use borrow.Author.Tests.{le-leb}
use lib.Dec.{T}
use lib.ListN.{length}
use Rattle.table.specs.declared.State.{State}
use Rattle.table.specs.State.{stage_of, is_nothing}
use Rattle.lent.specs.Lent.{roots_size}
use Rattle.network.specs.Build.{wanted, network_state}
use Rattle.network.proofs.Building.BuiltRows.{built_cells, built_roots, network-stage, good-built, roots-built}
use Rattle.network.proofs.Building.BuiltCanonical.{canonical-built}
use Rattle.canonical.specs.Canonical.{canonical_answer}

pub answer-built : (s : State) (values care roots cells : List ℕ) → T (not (is_nothing (stage_of s))) → roots_size ≤ length roots
    → canonical_answer (network_state s (wanted s values care)) (built_roots s values care roots) (built_cells s values care cells) ≡ Ok 0
unfolding canonical_answer
answer-built s values care roots cells held h =
    rw (
      le-leb roots_size (length (built_roots s values care roots)) (roots-built s values care roots cells held h),
      network-stage s (wanted s values care) held,
      good-built s values care roots cells held,
      canonical-built s values care roots cells held,
    )
