-- Section 3 of document 01, 'Value bits of free rows never matter', of a build: two lents that agree on the care bits of the stream, and on
-- its value bits where they are cared, have one outcome and leave the same.
-- Assumes nothing.
use Rattle.std.specs.Prelude.{Ok}
use mathlib.Core.Path.{◌≡◌, ap}
use mathlib.Core.Bool.{true, cond, not}
use mathlib.Core.List.{List, ◌++◌}
use Prim.Native.Nat.{ℕ, ◌*◌, ◌^◌}
use lib.Dec.{leb}
use lib.ListN.{get_or, drop}
use Rattle.lists.specs.Written.{over}
use Rattle.diagram.proofs.Filling.FreeRows.{cost-alike, network-alike}
use Rattle.table.specs.Answer.{Answer}
use Rattle.table.specs.declared.Refusal.TheVariants.{ShortBuffer, NoTable, TooSmall}
use Rattle.table.specs.declared.State.{State}
use Rattle.table.specs.Answer.{unless, done, outcome_of}
use Rattle.table.specs.State.{order_of, stage_of, is_nothing}
use Rattle.fill.specs.Work.{zero_work}
use Rattle.fill.specs.Calls.{held_table}
use Rattle.fill.proofs.Calls.FreeRows.{AlikeBits, held-alike}
use Rattle.lent.specs.Lent.{numbers_of, roots_size}
use Rattle.network.specs.Build.{held_network, wanted, capacity, long_enough, clears, network_state}
use Rattle.network.specs.Build.{build_answer, build_outcome, build_roots, build_cells, build_work}

module _ (s : State) (values care values' care' work roots cells : List ℕ)
    (alike : AlikeBits (s.m * 2 ^ s.n) values care values' care')
    (room : long_enough values care work roots ≡ long_enough values' care' work roots) where
  wanted-alike : wanted s values care ≡ wanted s values' care'
  unfolding wanted
  wanted-alike =
      cost-alike (held_table s values care) (held_table s values' care') (held-alike s values care values' care' alike) (order_of s)

  held_same : held_network s values care ≡ held_network s values' care'
  unfolding held_network
  held_same =
      network-alike (held_table s values care) (held_table s values' care') (held-alike s values care values' care' alike) true (order_of s)

  build-answer : build_answer s values care work roots cells ≡ build_answer s values' care' work roots cells
  unfolding build_answer
  build-answer =
      λ i. unless (room i) ShortBuffer
      (unless (not (is_nothing (stage_of s))) NoTable
      (unless (leb (wanted-alike i) (capacity cells)) (TooSmall (wanted-alike i)) (Ok (wanted-alike i))))

  pub build-outcome : build_outcome s values care work roots cells ≡ build_outcome s values' care' work roots cells
  unfolding build_outcome
  build-outcome =
      λ i. outcome_of (build-answer i) (network_state s (wanted-alike i))

  pub build-roots : build_roots s values care work roots cells ≡ build_roots s values' care' work roots cells
  unfolding build_roots
  build-roots = λ i. cond (done (build-answer i)) (over (λ j. get_or (held_same i).roots j 0) roots_size roots) roots

  pub build-cells : build_cells s values care work roots cells ≡ build_cells s values' care' work roots cells
  unfolding build_cells
  build-cells =
      λ i. cond (done (build-answer i)) (numbers_of (held_same i).nodes ++ drop (3 * wanted-alike i) cells) cells

  pub build-work : build_work s values care work roots cells ≡ build_work s values' care' work roots cells
  unfolding build_work
  build-work = ap (λ (a : Answer). cond (clears a) (zero_work work) work) build-answer
