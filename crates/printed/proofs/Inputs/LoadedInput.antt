-- An input that is read leaves a state that holds a table, and planes as long as those lent.
-- Assumes nothing.
use Rattle.std.specs.Prelude.{Ok, is_ok}
use mathlib.Core.Path.{◌≡◌, sym, ap, ◌∙◌}
use mathlib.Core.Bool.{true, false, ◌&&◌}
use mathlib.Core.List.{List}
use Prim.Native.Nat.{ℕ, ◌+◌, ◌≤◌}
use borrow.Author.Tests.{leb-true}
use lib.Dec.{leb}
use lib.ListN.{length}
use Rattle.lists.proofs.Bools.{split, to-T, of_T, absurd-T, and_l, and_r}
use Rattle.lists.proofs.Written.Over.{length_over}
use Rattle.table.specs.declared.Done.{Done}
use Rattle.table.specs.Answer.{done}
use Rattle.table.proofs.Outcomes.{outcome-ok, outcome-done}
use Rattle.table.specs.State.{order_of, stage_of, is_nothing}
use Rattle.table.specs.File.{file_inputs, file_outputs, file_order, stream_blocks, stream_byte, file_answer}
use Rattle.table.specs.Calls.{plane_size, load_answer, loaded_state, load_outcome, load_values, load_care}
use Rattle.table.proofs.Files.Loaded as table-loaded
use Rattle.printed.specs.Input.{too_long, input_outcome, input_values, input_care}
use Rattle.printed.specs.BuiltInput.{read, is_read}

-- after a load that succeeds, the order is the file's, and a table is held

pub loaded-order : (file : List ℕ) → done (file_answer file) ≡ true → order_of (loaded_state file) ≡ file_order file
loaded-order file e = table-loaded.loaded-order file (to-T e)

pub loaded-held : (file : List ℕ) → done (file_answer file) ≡ true → is_nothing (stage_of (loaded_state file)) ≡ false
loaded-held file e = table-loaded.holds-table file (to-T e)

-- a success passes the test of the lengths

planes-long : (file values care : List ℕ) → done (load_answer file values care) ≡ true
    → leb plane_size (length values) && leb plane_size (length care) ≡ true
unfolding load_answer
planes-long file values care e =
    split (leb plane_size (length values) && leb plane_size (length care)) (λ q. q) (λ q. absurd-T {b = true} tt (sym (rw q at e)))

file-accepted : (file values care : List ℕ) → done (load_answer file values care) ≡ true → done (file_answer file) ≡ true
unfolding load_answer
file-accepted file values care e = rw (planes-long file values care e) at e

-- an input that is read

module _ (file values care : List ℕ) (e : is_read file values care ≡ true) where
  -- is not too long
  short : too_long file ≡ false
  unfolding input_outcome
  short = split (too_long file) (λ q. absurd-T {b = true} tt (sym (rw q at e))) (λ q. q)

  -- is loaded
  loads : done (load_answer file values care) ≡ true
  unfolding input_outcome load_outcome
  loads = sym (outcome-ok (load_answer file values care) (loaded_state file)) ∙ (rw short at e)

  pub read-accepted : done (file_answer file) ≡ true
  read-accepted = file-accepted file values care loads

  -- the state, which is the file's, holds a table
  pub read_held : is_nothing (stage_of (loaded_state file)) ≡ false
  read_held = loaded-held file read-accepted

  -- the planes lent are long enough

  pub values-long : plane_size ≤ length values
  values-long =
      leb-true plane_size (length values)
      (of_T (and_l (leb plane_size (length values)) (leb plane_size (length care)) (to-T (planes-long file values care loads))))

  pub care-long : plane_size ≤ length care
  care-long =
      leb-true plane_size (length care)
      (of_T (and_r (leb plane_size (length values)) (leb plane_size (length care)) (to-T (planes-long file values care loads))))

  -- and keep their lengths

  pub values_length : length (input_values file values care) ≡ length values
  unfolding input_values load_values
  values_length =
      rw (short, loads) (length_over (stream_byte file 1 (stream_blocks (file_inputs file) (file_outputs file))) plane_size values values-long)

  pub care-length : length (input_care file values care) ≡ length care
  unfolding input_care load_care
  care-length =
      let blocks = stream_blocks (file_inputs file) (file_outputs file) in
      rw (short, loads) (length_over (stream_byte file (1 + blocks) blocks) plane_size care care-long)

-- the state that is read is the file's
pub read-state : (file values care : List ℕ) (r : Done) → read file values care ≡ Ok r → r.state ≡ loaded_state file
unfolding input_outcome load_outcome
read-state file values care r e =
    let q = short file values care (ap is_ok e) in
    (outcome-done (load_answer file values care) (loaded_state file) r (rw q at e)).1
