-- What load leaves, by its answer.
-- Assumes nothing.
use Rattle.std.specs.Prelude.{Ok, Err}
use mathlib.Core.Path.{◌≡◌, refl, ap, ap₂, ◌∙◌}
use mathlib.Core.Bool.{Bool, true, false, cond, ◌&&◌}
use mathlib.Core.List.{List, map}
use Prim.Native.Nat.{ℕ, ◌+◌, ◌≤◌, ◌<◌}
use borrow.Author.Tests.{le-leb, lt-leb}
use lib.Dec.{ltb, leb}
use lib.ListN.{length}
use Rattle.lists.specs.Lists.{up_to}
use Rattle.lists.specs.Written.{over}
use Rattle.diagram.specs.Networks.Bound.{most_variables}
use Rattle.table.specs.declared.State.{State}
use Rattle.table.specs.declared.Stage.TheVariants.{Table as AtTable}
use Rattle.table.specs.declared.Refusal.{Refusal}
use Rattle.table.specs.declared.Refusal.TheVariants.{ShortBuffer}
use Rattle.block.specs.Block.{byte}
use Rattle.table.specs.File.{file_inputs, file_outputs, stream_blocks, stream_byte, file_answer}
use Rattle.table.proofs.Files.Heading.{second-false}
use Rattle.table.specs.Calls.{plane_size, load_answer, loaded_state, load_outcome, load_values, load_care}

-- the state of a heading in hand
state-read : (file : List ℕ) (n m : ℕ) (order : List ℕ) → n ≡ file_inputs file → m ≡ file_outputs file
    → order ≡ map (λ p. cond (ltb p n) (byte file 0 (6 + p)) 0) (up_to most_variables)
    → record { n = n; m = m; order = order; count = 0; stage = AtTable } ≡ loaded_state file
state-read file n m order en em eo =
    let o : order ≡ map (λ p. cond (ltb p (file_inputs file)) (byte file 0 (6 + p)) 0) (up_to most_variables) =
    eo ∙ ap (λ (k : ℕ). map (λ p. cond (ltb p k) (byte file 0 (6 + p)) 0) (up_to most_variables)) en in
    rw (en, em, o)

-- the answer: a plane that is too short, else the file's

short : (b : Bool) (file values care : List ℕ) → leb plane_size (length values) && leb plane_size (length care) ≡ b
    → load_answer file values care ≡ cond b (file_answer file) (Err ShortBuffer)
unfolding load_answer
short b file values care e = rw e

module _ (file values care : List ℕ) where
  pub short-values : length values < plane_size → load_answer file values care ≡ Err ShortBuffer
  short-values h = short false file values care (rw (lt-leb plane_size (length values) h))

  pub short-care : length care < plane_size → load_answer file values care ≡ Err ShortBuffer
  short-care h = short false file values care (second-false (leb plane_size (length values)) (lt-leb plane_size (length care) h))

  pub long-planes : plane_size ≤ length values → plane_size ≤ length care → load_answer file values care ≡ file_answer file
  long-planes h k = short true file values care (rw (le-leb plane_size (length values) h) (le-leb plane_size (length care) k))

  -- a refusal leaves all as it was
  pub refused : (r : Refusal) → load_answer file values care ≡ Err r
      → (Err r ≡ load_outcome file values care)
      × ((values ≡ load_values file values care) × (care ≡ load_care file values care))
  unfolding load_outcome load_values load_care
  refused r e = rw e (refl, (refl, refl))

  -- a success leaves what the heading and the streams say
  pub loads : (k : ℕ) → load_answer file values care ≡ Ok k
      → (n m blocks : ℕ) (order v c : List ℕ) → n ≡ file_inputs file → m ≡ file_outputs file → blocks ≡ stream_blocks n m
      → order ≡ map (λ p. cond (ltb p n) (byte file 0 (6 + p)) 0) (up_to most_variables)
      → v ≡ over (stream_byte file 1 blocks) plane_size values → c ≡ over (stream_byte file (1 + blocks) blocks) plane_size care
      → (Ok (record { value = k; state = record { n = n; m = m; order = order; count = 0; stage = AtTable } })
      ≡ load_outcome file values care)
      × ((v ≡ load_values file values care) × (c ≡ load_care file values care))
  unfolding load_outcome load_values load_care
  loads k e n m blocks order v c en em eb eo ev ec =
      let b : blocks ≡ stream_blocks (file_inputs file) (file_outputs file) = eb ∙ ap₂ stream_blocks en em in
      rw e (
        ap (λ (t : State). Ok (record { value = k; state = t })) (state-read file n m order en em eo),
        (
          ev ∙ ap (λ (y : ℕ). over (stream_byte file 1 y) plane_size values) b,
          ec ∙ ap (λ (y : ℕ). over (stream_byte file (1 + y) y) plane_size care) b,
        ),
      )
