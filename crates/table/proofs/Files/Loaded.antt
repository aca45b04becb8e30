-- What an accepted file loads: a state that holds a table, and planes whose bits are the file's two streams, with zeros past them.
-- Assumes nothing.
use mathlib.Core.Path.{◌≡◌, sym, ap, ◌∙◌, subst}
use mathlib.Core.Bool.{Bool, true, false, ◌&&◌}
use mathlib.Core.List.{List}
use Prim.Native.Nat.{ℕ, ◌+◌, ◌*◌, ◌-◌, ◌/◌, ◌%◌, ◌^◌, ◌≤◌, ◌<◌}
use native.Mathlib.Nat.{zero-div}
use native.Mathlib.Omega.{arith}
use borrow.Author.Tests.{lt-ltb, le-ltb, le-leb, lt-leb, ltb-true, ltb-false}
use lib.Dec.{T, eqb, ltb, leb, le→leb}
use Rattle.lists.specs.Written.{over}
use Rattle.lists.proofs.Bools.{split, of_T, and_T}
use Rattle.lists.proofs.Written.Over.{get_d_over}
use Rattle.lists.proofs.Written.Filled.{first-listed}
use Rattle.diagram.specs.Networks.Bound.{most_variables, most_outputs}
use Rattle.diagram.specs.Orders.Order.{is_order}
use Rattle.table.specs.declared.Stage.TheVariants.{Table as AtTable}
use Rattle.table.specs.Answer.{done}
use Rattle.block.specs.Bits.{stream_bit}
use Rattle.table.specs.State.{good_heading, order_of, stage_of, is_nothing}
use Rattle.block.specs.Block.{content_size, content_bits, byte, content_bit}
use Rattle.table.specs.File.{file_inputs, file_outputs, file_order, stream_bits, stream_blocks, first_bit, stream_byte, file_answer}
use Rattle.table.specs.Calls.{plane_size, loaded_state, loaded_plane}
use Rattle.table.specs.Sizes.{most_bits}
use Rattle.block.proofs.UnusedBits.{unused-bit}
use Rattle.table.proofs.Files.Answers.{stream-small}
use Rattle.table.proofs.Files.Accepted.{AcceptedShape, accepted}
use Rattle.table.proofs.Held.{stage-good}

-- the state

pub heading-kept : (n m : ℕ) (order : List ℕ) → n ≤ most_variables → 1 ≤ m → m ≤ most_outputs → T (is_order n order)
    → T (good_heading n m order)
unfolding good_heading
heading-kept n m order h g k o =
    and_T (leb n most_variables) (leb 1 m && leb m most_outputs && is_order n order) (le→leb n most_variables h)
    (and_T (leb 1 m && leb m most_outputs) (is_order n order) (and_T (leb 1 m) (leb m most_outputs) (le→leb 1 m g) (le→leb m most_outputs k)) o)

module _ (file : List ℕ) (t : T (done (file_answer file))) where
  pub loaded-order : order_of (loaded_state file) ≡ file_order file
  loaded-order = first-listed (λ p. byte file 0 (6 + p)) (file_inputs file) most_variables (accepted file t).heading.shape.inputs

  pub loaded-heading : T (good_heading (file_inputs file) (file_outputs file) (order_of (loaded_state file)))
  loaded-heading =
      let a : AcceptedShape file = (accepted file t).heading.shape in
      heading-kept (file_inputs file) (file_outputs file) (order_of (loaded_state file)) a.inputs a.one-output a.outputs
      (subst (λ (l : List ℕ). T (is_order (file_inputs file) l)) (sym loaded-order) a.order)

  pub loaded-stage : stage_of (loaded_state file) ≡ AtTable
  loaded-stage = stage-good (loaded_state file) (of_T loaded-heading)

  pub holds-table : is_nothing (stage_of (loaded_state file)) ≡ false
  holds-table = ap is_nothing loaded-stage

-- the planes

byte-below : (i : ℕ) → i < most_bits → i / 8 < plane_size
unfolding plane_size
byte-below i h = omega arith

-- bit i of a plane written over is bit i mod 8 of byte i / 8
plane-bit : (f : ℕ → ℕ) (plane : List ℕ) (i : ℕ) → i < most_bits → stream_bit (over f plane_size plane) i ≡ eqb (f (i / 8) / 2 ^ (i % 8) % 2) 1
unfolding stream_bit
plane-bit f plane i h = ap (λ (x : ℕ). eqb (x / 2 ^ (i % 8) % 2) 1) (get_d_over f plane_size plane (i / 8) 0 (byte-below i h))

-- bit i of the stream stands in the block i / content_bits, there at bit i mod content_bits
content-at : (i : ℕ) → (i % content_bits / 8 ≡ i / 8 % content_size) × (i % content_bits % 8 ≡ i % 8) × (i / 8 / content_size ≡ i / content_bits)
content-at i = (omega arith, omega arith, omega arith)

module _ (file : List ℕ) (first blocks : ℕ) (plane : List ℕ) (i : ℕ) (h : i < most_bits) where
  bit-inside : i < content_bits * blocks
      → stream_bit (over (stream_byte file first blocks) plane_size plane) i ≡ content_bit file (first + i / content_bits) (i % content_bits)
  unfolding stream_byte content_bit
  bit-inside l =
      let p = content-at i in
      let e : i % content_bits / 8 ≡ i / 8 % content_size = p.0 in
      let d : i % content_bits % 8 ≡ i % 8 = p.1 in
      let o : i / 8 / content_size ≡ i / content_bits = p.2 in
      plane-bit (stream_byte file first blocks) plane i h ∙ rw (lt-ltb (i / 8) (content_size * blocks) (omega arith), e, d, o)

  bit-outside : content_bits * blocks ≤ i → stream_bit (over (stream_byte file first blocks) plane_size plane) i ≡ false
  unfolding stream_byte
  bit-outside l =
      plane-bit (stream_byte file first blocks) plane i h ∙ rw (le-ltb (i / 8) (content_size * blocks) (omega arith), zero-div (2 ^ (i % 8)))

-- the block that a stream begins: values, or care
abbrev begins : Bool → ℕ → ℕ
begins true blocks = 1 + blocks
begins false blocks = 1

begins-range : (c : Bool) (blocks j : ℕ) → j < blocks → (1 ≤ begins c blocks + j) × (begins c blocks + j ≤ 2 * blocks)
begins-range true blocks j h = omega arith
begins-range false blocks j h = omega arith

begins-bit : (c : Bool) (blocks j : ℕ) → j < blocks → first_bit blocks (begins c blocks + j) ≡ content_bits * j
begins-bit true blocks j h = rw (lt-leb (1 + blocks + j) blocks (omega arith)) (omega arith)
begins-bit false blocks j h = rw (le-leb (1 + j) blocks (omega arith)) (omega arith)

enough-blocks : (n m : ℕ) → m * 2 ^ n ≤ content_bits * stream_blocks n m
unfolding stream_blocks
enough-blocks n m = omega arith

module _ (file : List ℕ) (t : T (done (file_answer file))) (c : Bool) (plane : List ℕ) (i : ℕ) where
  stream-bit : i < stream_bits (file_inputs file) (file_outputs file)
      → stream_bit (loaded_plane file (begins c (stream_blocks (file_inputs file) (file_outputs file))) plane) i
      ≡ content_bit file (begins c (stream_blocks (file_inputs file) (file_outputs file)) + i / content_bits) (i % content_bits)
  stream-bit h =
      let n : ℕ = file_inputs file in
      let m : ℕ = file_outputs file in
      let a : AcceptedShape file = (accepted file t).heading.shape in
      let l : m * 2 ^ n ≤ most_bits = stream-small n m a.inputs a.outputs in
      bit-inside file (begins c (stream_blocks n m)) (stream_blocks n m) plane i (omega arith) (omega (arith, enough-blocks n m))

  -- a bit past the stream's last stands in the stream's last block, which has a good tail, or past its blocks
  stream_end : stream_bits (file_inputs file) (file_outputs file) ≤ i → i < most_bits
      → stream_bit (loaded_plane file (begins c (stream_blocks (file_inputs file) (file_outputs file))) plane) i ≡ false
  stream_end l h =
      let b : ℕ = stream_blocks (file_inputs file) (file_outputs file) in
      let k : ℕ = begins c b + i / content_bits in
      split (ltb i (content_bits * b))
      (λ e. let g : i < content_bits * b = ltb-true i (content_bits * b) e in
      let j : i / content_bits < b = omega arith in
      let r = begins-range c b (i / content_bits) j in
      bit-inside file (begins c b) b plane i h g
      ∙ unused-bit file k (stream_bits (file_inputs file) (file_outputs file) - first_bit b k) ((accepted file t).blocks k r.0 r.1).tail
      (i % content_bits) (omega arith) (omega (arith, begins-bit c b (i / content_bits) j)))
      (λ e. bit-outside file (begins c b) b plane i h (ltb-false i (content_bits * b) e))

-- an accepted file's streams: values from block 1 on, care from the block after those on; and zeros past their last bits

module _ (file : List ℕ) (t : T (done (file_answer file))) (plane : List ℕ) (i : ℕ) where
  pub loaded-value : i < stream_bits (file_inputs file) (file_outputs file)
      → stream_bit (loaded_plane file 1 plane) i ≡ content_bit file (1 + i / content_bits) (i % content_bits)
  loaded-value = stream-bit file t false plane i

  pub loaded-care : i < stream_bits (file_inputs file) (file_outputs file)
      → stream_bit (loaded_plane file (1 + stream_blocks (file_inputs file) (file_outputs file)) plane) i
      ≡ content_bit file (1 + stream_blocks (file_inputs file) (file_outputs file) + i / content_bits) (i % content_bits)
  loaded-care = stream-bit file t true plane i

  pub loaded-value-end : stream_bits (file_inputs file) (file_outputs file) ≤ i → i < most_bits → stream_bit (loaded_plane file 1 plane) i ≡ false
  loaded-value-end = stream_end file t false plane i

  pub loaded-care-end : stream_bits (file_inputs file) (file_outputs file) ≤ i → i < most_bits
      → stream_bit (loaded_plane file (1 + stream_blocks (file_inputs file) (file_outputs file)) plane) i ≡ false
  loaded-care-end = stream_end file t true plane i
