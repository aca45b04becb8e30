-- The bytes that are gathered under an order: those of the reordered table.
-- Assumes nothing.
use mathlib.Core.Path.{◌≡◌, refl, sym, ap, ap₂, ◌∙◌}
use mathlib.Core.Bool.{Bool, cond, ◌&&◌}
use mathlib.Core.List.{List, ◌++◌, map}
use Prim.Native.Nat.{ℕ, ◌+◌, ◌*◌, ◌^◌, ◌≤◌, ◌<◌, min, zero-le}
use native.Mathlib.Omega.{arith}
use borrow.Author.Tests.{lt-ltb, le-ltb, lt-leb, le-leb}
use lib.Dec.{ltb}
use lib.ListN.{length, get_or, take, drop, replicate, length-append, length-replicate, get_or-replicate}
use lib.Seq.{ext_get_or, take_at, get_or-take, get_or-drop}
use Rattle.lists.specs.Lists.{up_to}
use Rattle.lists.specs.Bits.{packed}
use Rattle.lists.proofs.Numbers.UpTo.{map-up_to-cong, get_or-map-up_to, length-map-up_to}
use Rattle.lists.proofs.Bits.Packed.{packed-cong}
use Rattle.lists.proofs.Written.Filled.{filled}
use Rattle.diagram.specs.Networks.Bound.{most_variables, most_outputs}
use Rattle.diagram.specs.Orders.Order.{behind}
use Rattle.diagram.specs.Tree.{draw}
use Rattle.diagram.specs.Filling.Fill.{Row}
use Rattle.diagram.specs.Table.{reordered}
use Rattle.block.specs.Bits.{stream_bit}
use Rattle.table.specs.Stream.{table_of}
use Rattle.reorder.specs.Sizes.{width, most_rows, part_size}
use Rattle.reorder.specs.Pack.{pack, encode}
use Rattle.reorder.specs.Gather.{row_map, gathered_byte, gathered_plane, gathered_part, output_part}
use Rattle.reorder.proofs.DrawnBytes.{draw-bytes}
use Rattle.reorder.proofs.Shifts.{rows-room, byte-within}

module _ (n : ℕ) (order : List ℕ) (fits : n ≤ most_variables) where
  -- the map, row by row
  pub map-filled : (k : ℕ) → k ≡ 2 ^ n → filled (behind n (take n order)) most_rows k ≡ row_map n order
  unfolding row_map
  map-filled k e =
      ap (filled (behind n (take n order)) most_rows) e
      ∙ ap (λ (b : Bool). map (λ s. cond (b && ltb s (2 ^ n)) (behind n (take n order) s) 0) (up_to most_rows))
      (sym (le-leb n most_variables fits))

  map_at : (s : ℕ) → s < 2 ^ n → get_or (row_map n order) s 0 ≡ behind n (take n order) s
  map_at s h =
      ap (λ l. get_or l s 0) (sym (map-filled (2 ^ n) refl))
      ∙ get_or-map-up_to (λ q. cond (ltb q (2 ^ n)) (behind n (take n order) q) 0) most_rows s 0 (omega (arith, rows-room n fits))
      ∙ ap (λ b. cond b (behind n (take n order) s) 0) (lt-ltb s (2 ^ n) h)

  -- Byte i of a plane holds the rows from 8 * i on, each below 2 ^ n, so that the map has the drawn row behind each.
  plane-bytes : (plane : List ℕ) (base : ℕ) (row : ℕ → Row) (p : Row → Bool) → ((r : ℕ) → stream_bit plane (base + r) ≡ p (row r))
      → gathered_plane plane base (row_map n order) n ≡ pack p (draw n (λ s. row (behind n (take n order) s)) 0)
  plane-bytes plane base row p e =
      let k : ℕ = min 8 (2 ^ n) in
      map-up_to-cong (width n) (λ i. packed k (λ b. stream_bit plane (base + get_or (row_map n order) (8 * i + b) 0)))
      (λ i. packed k (λ b. p (row (behind n (take n order) (8 * i + b)))))
      (λ i h. packed-cong k _ (λ b. p (row (behind n (take n order) (8 * i + b))))
      (λ b q. let r : 8 * i + b < 2 ^ n = omega (arith, byte-within n i h) in
      ap (λ x. stream_bit plane (base + x)) (map_at (8 * i + b) r) ∙ e (behind n (take n order) (8 * i + b))))
      ∙ sym (draw-bytes p n (λ s. row (behind n (take n order) s)))

  -- what is gathered of output j is its part under the order
  pub gathered-encode : (m : ℕ) (values care rows : List ℕ) (j : ℕ) → rows ≡ row_map n order
      → gathered_part values care rows n j ≡ encode (reordered (table_of n m values care) (take n order) j)
  gathered-encode m values care rows j e =
      let t = table_of n m values care in
      ap (λ r. gathered_part values care r n j) e
      ∙ ap₂ ◌++◌ (plane-bytes values (j * 2 ^ n) (t.row j) (λ r. r.value) (λ r. refl))
      (plane-bytes care (j * 2 ^ n) (t.row j) (λ r. r.care) (λ r. refl))

-- the rows of byte i, cut out of the map
pub gathered-rows : (plane : List ℕ) (base : ℕ) (map : List ℕ) (k i n : ℕ) (rows : List ℕ) → rows ≡ take n (drop (8 * i) map) → n ≡ k
    → length rows ≡ k → packed (length rows) (λ b. stream_bit plane (base + get_or rows b 0)) ≡ gathered_byte plane base map k i
gathered-rows plane base map k i n rows cut same long =
    ap (λ m. packed m (λ b. stream_bit plane (base + get_or rows b 0))) long
    ∙ packed-cong k _ (λ b. stream_bit plane (base + get_or map (8 * i + b) 0))
    (λ b h. ap (λ x. stream_bit plane (base + x))
    (ap (λ (r : List ℕ). get_or r b 0) cut ∙ get_or-take n (drop (8 * i) map) b 0 (omega arith) ∙ get_or-drop (8 * i) map b 0))

-- an array of zeros is a map of no rows, and that of variables that are too many

replicate-map : (k : ℕ) → replicate {A = ℕ} k 0 ≡ map (λ s. 0) (up_to k)
replicate-map k =
    ext_get_or {A = ℕ} 0 (replicate k 0) (map (λ s. 0) (up_to k)) (length-replicate k 0 ∙ sym (length-map-up_to (λ s. 0) k))
    (λ i h. let l : i < k = omega (arith, length-replicate {A = ℕ} k 0) in
    get_or-replicate k i 0 0 l ∙ sym (get_or-map-up_to (λ s. 0) k i 0 l))

pub map-none : (f : ℕ → ℕ) (k : ℕ) → replicate k 0 ≡ filled f k 0
map-none f k =
    replicate-map k ∙ map-up_to-cong k (λ s. 0) (λ q. cond (ltb q 0) (f q) 0)
    (λ i h. ap (λ (b : Bool). cond b (f i) 0) (sym (le-ltb i 0 zero-le)))

pub map-past : (n : ℕ) (order : List ℕ) → most_variables < n → replicate most_rows 0 ≡ row_map n order
unfolding row_map
map-past n order h =
    replicate-map most_rows
    ∙ ap (λ (b : Bool). map (λ s. cond (b && ltb s (2 ^ n)) (behind n (take n order) s) 0) (up_to most_rows))
    (sym (lt-leb n most_variables h))

-- an output's part, where there is one

module _ (values care rows : List ℕ) (n j : ℕ) where
  abbrev padded : Bool → Bool → List ℕ
  padded a b = cond (a && b) (gathered_part values care rows n j ++ drop (width n + width n) (replicate part_size 0)) (replicate part_size 0)

  pub part-met : n ≤ most_variables → j < most_outputs
      → output_part values care rows n j ≡ gathered_part values care rows n j ++ drop (width n + width n) (replicate part_size 0)
  unfolding output_part
  part-met h k = ap₂ padded (le-leb n most_variables h) (lt-ltb j most_outputs k)

  pub part-wide : most_variables < n → replicate part_size 0 ≡ output_part values care rows n j
  unfolding output_part
  part-wide h = ap (λ (a : Bool). padded a (ltb j most_outputs)) (sym (lt-leb n most_variables h))

  pub part-late : n ≤ most_variables → most_outputs ≤ j → replicate part_size 0 ≡ output_part values care rows n j
  unfolding output_part
  part-late h k = ap₂ padded (sym (le-leb n most_variables h)) (sym (le-ltb j most_outputs k))

  pub length-gathered : length (gathered_part values care rows n j) ≡ width n + width n
  length-gathered =
      length-append (gathered_plane values (j * 2 ^ n) rows n) (gathered_plane care (j * 2 ^ n) rows n)
      ∙ ap₂ ◌+◌ (length-map-up_to _ (width n)) (length-map-up_to _ (width n))

  -- what lies at the front of it
  pub part-front : (s : ℕ) → n ≤ most_variables → j < most_outputs → s ≡ width n + width n
      → take s (output_part values care rows n j) ≡ gathered_part values care rows n j
  part-front s h k e =
      ap (take s) (part-met h k)
      ∙ take_at (gathered_part values care rows n j) (drop (width n + width n) (replicate part_size 0)) s (length-gathered ∙ sym e)
