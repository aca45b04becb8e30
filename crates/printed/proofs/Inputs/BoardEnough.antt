-- A board of 2,159 cells is never too small: an input that is read is built.
-- Assumes nothing.
use Rattle.std.specs.Prelude.{Ok}
use mathlib.Core.Path.{◌≡◌}
use mathlib.Core.Bool.{true, false}
use mathlib.Core.List.{List}
use Prim.Native.Nat.{ℕ, ◌≤◌}
use native.Mathlib.Omega.{arith}
use borrow.Author.Tests.{le-leb}
use lib.ListN.{length}
use Rattle.lists.proofs.Bools.{to-not}
use Rattle.diagram.specs.Networks.Bound.{most_nodes}
use Rattle.table.specs.declared.State.{State}
use Rattle.table.specs.State.{stage_of, is_nothing}
use Rattle.table.specs.Calls.{plane_size, loaded_state}
use Rattle.fill.specs.Work.{work_size}
use Rattle.lent.specs.Lent.{roots_size}
use Rattle.network.specs.Build.{wanted, capacity, build_answer}
use Rattle.network.proofs.Building.HeldRead.{few-wanted}
use Rattle.printed.specs.Input.{input_values, input_care}
use Rattle.printed.specs.BuiltInput.{is_read}
use Rattle.printed.proofs.Inputs.LoadedInput.{read_held, values-long, care-long, values_length, care-length}

-- a table that is held is built, where the buffers have section 2's sizes and the board has 2,159 cells
module _ (s : State) (values care work roots cells : List ℕ) where
  build-done : is_nothing (stage_of s) ≡ false → plane_size ≤ length values → plane_size ≤ length care → work_size ≤ length work
      → roots_size ≤ length roots → most_nodes ≤ capacity cells → build_answer s values care work roots cells ≡ Ok (wanted s values care)
  unfolding build_answer
  build-done e v c w r b =
      let few = few-wanted s values care (to-not e) in
      rw (
        le-leb plane_size (length values) v,
        le-leb plane_size (length care) c,
        le-leb work_size (length work) w,
        le-leb roots_size (length roots) r,
        e,
        le-leb (wanted s values care) (capacity cells) (omega (arith, few)),
      )

-- an input that is read, and buffers as section 2 has them; the lengths of values and care are tested by the load
module _ (file values care work roots cells : List ℕ) (w : work_size ≤ length work) (r : roots_size ≤ length roots)
    (b : most_nodes ≤ capacity cells) (e : is_read file values care ≡ true) where
  -- the state and the planes after the load
  abbrev s : State
  s = loaded_state file

  abbrev v : List ℕ
  v = input_values file values care

  abbrev c : List ℕ
  c = input_care file values care

  -- the build is never refused
  pub answer-done : build_answer s v c work roots cells ≡ Ok (wanted s v c)
  answer-done =
      build-done s v c work roots cells (read_held file values care e)
      (omega (arith, values-long file values care e, values_length file values care e))
      (omega (arith, care-long file values care e, care-length file values care e)) w r b
