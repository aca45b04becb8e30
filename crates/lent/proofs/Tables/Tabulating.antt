-- The table that lent cells compute, bit by bit and byte by byte, and what a call that succeeds leaves.
-- Assumes nothing.
use Rattle.std.specs.Prelude.{Ok}
use mathlib.Core.Path.{◌≡◌, refl, sym, ap, ◌∙◌}
use mathlib.Core.Bool.{Bool, true, false, and-true}
use mathlib.Core.List.{List, []}
use Prim.Native.Nat.{ℕ, zero, suc, ◌+◌, ◌*◌, ◌-◌, ◌/◌, ◌%◌, ◌^◌, ◌≤◌, ◌<◌, min}
use native.Mathlib.Nat.{one-mul, div-lt_iff_lt-mul}
use native.Mathlib.Omega.{arith}
use borrow.Author.Tests.{lt-ltb, le-ltb, le-leb, leb-true, leb-false}
use lib.Dec.{ltb, leb, lit<}
use lib.ListN.{length, get_or, take}
use lib.Pow.{pow_pos, shl_exact}
use lib.Seq.{get_or-take}
use Rattle.lists.specs.Bits.{packed}
use Rattle.lists.specs.Written.{over}
use Rattle.lists.proofs.Bools.{split}
use Rattle.diagram.specs.Networks.Bound.{most_outputs}
use Rattle.diagram.specs.Filling.Fill.{Row}
use Rattle.diagram.specs.Table.{Table}
use Rattle.diagram.specs.Networks.Diagram.{gives}
use Rattle.diagram.specs.Orders.Order.{row_under}
use Rattle.table.specs.declared.State.{State}
use Rattle.table.specs.State.{order_of, stage_of, is_network}
use Rattle.table.specs.Stream.{plane_byte}
use Rattle.table.specs.Calls.{plane_size}
use Rattle.lent.specs.Lent.{cells_by, lent_cells, lent_diagram, roots_size}
use Rattle.lent.specs.Evaluate.{good_cells}
use Rattle.lent.specs.Tabulate.{tabulate_answer, lent_table, tabulate_values, tabulate_care}
use Rattle.lent.specs.Inner.Tabulate.{table_bit, ones_byte}
use Rattle.lent.proofs.Answered.{gives-roots}

-- bit x of the stream of values

module _ (s : State) (roots cells : List ℕ) (x : ℕ) where
  pub bit_past : s.m * 2 ^ s.n ≤ x → table_bit (λ v. v.value) (lent_table s roots cells) x ≡ false
  unfolding table_bit
  bit_past h = rw (le-ltb x (s.m * 2 ^ s.n) h)

  module _ (h : x < s.m * 2 ^ s.n) where
    pub output-of : x / 2 ^ s.n < s.m
    output-of = (div-lt_iff_lt-mul {k = 2 ^ s.n} {x = x} {y = s.m} (pow_pos s.n)).1 h

    -- of the row and the root in hand
    pub bit-followed : (row root : ℕ) → row ≡ x % 2 ^ s.n → root ≡ get_or roots (x / 2 ^ s.n) 0
        → (b : Bool) → b ≡ gives true (lent_cells s.count cells) (row_under s.n (order_of s) row) s.n root
        → b ≡ table_bit (λ v. v.value) (lent_table s roots cells) x
    unfolding table_bit lent_diagram cells_by
    bit-followed row root er eo b e =
        rw (lt-ltb x (s.m * 2 ^ s.n) h, get_or-take s.m roots (x / 2 ^ s.n) 0 output-of, ← er, ← eo)
        (e ∙ gives-roots (lent_cells s.count cells).nodes [] (take s.m roots) (row_under s.n (order_of s) row) s.n root)

-- the eight bits of a byte
pub byte-of-bits : (field : Row → Bool) (t : Table) (i : ℕ) → packed 8 (λ b. table_bit field t (8 * i + b)) ≡ plane_byte field t i
unfolding plane_byte table_bit
byte-of-bits field t i = refl

-- where the first `left` of k bits are ones and the others zeros
ones : (k left : ℕ) (f : ℕ → Bool) → left ≤ k → ((b : ℕ) → b < left → f b ≡ true) → ((b : ℕ) → left ≤ b → b < k → f b ≡ false)
    → packed k f + 1 ≡ 2 ^ left
ones zero left f h t e = let z : left ≡ 0 = omega arith in rw z
ones (suc k) left f h t e =
    split (leb left k)
    (λ q. let l = leb-true left k q in
    rw (e k l (omega arith)) (omega (arith, ones k left f l t (λ b d g. e b d (omega arith)))))
    (λ q. let l = leb-false left k q in
    let z : left ≡ suc k = omega arith in
    rw (z, t k (omega arith))
    (omega (arith, ones k k f (omega arith) (λ b d. t b (omega arith)) (λ b d g. absurd (omega arith)))))

-- a byte of a stream of ones: those that are left, 8 at most

module _ (end i : ℕ) where
  ones-left : (left : ℕ) → left ≤ 8 → ((b : ℕ) → b < left → 8 * i + b < end) → ((b : ℕ) → left ≤ b → b < 8 → end ≤ 8 * i + b)
      → ones_byte end i + 1 ≡ 2 ^ left
  unfolding ones_byte
  ones-left left h t e =
      ones 8 left (λ b. ltb (8 * i + b) end) h (λ b d. lt-ltb (8 * i + b) end (t b d)) (λ b d g. le-ltb (8 * i + b) end (e b d g))

  pub ones-under : (left : ℕ) → left ≡ min (end - 8 * i) 8 → 1 * 2 ^ left % 65536 - 1 ≡ ones_byte end i
  ones-under left e =
      let few : left ≤ 8 = omega arith in
      omega (
        arith,
        shl_exact {a = 1} 1 left 16 (lit< tt) (omega arith),
        one-mul (2 ^ left),
        ones-left left few (λ b d. omega arith) (λ b d g. omega arith),
      )

-- every row is cared
pub ones-care : (s : State) (roots cells : List ℕ) (i : ℕ)
    → ones_byte (s.m * 2 ^ s.n) i ≡ plane_byte (λ x. x.care) (lent_table s roots cells) i
unfolding plane_byte ones_byte
ones-care s roots cells i = ap (packed 8) (λ k b. sym (and-true (ltb (8 * i + b) (s.m * 2 ^ s.n))) k)

-- where no test fails, both planes are written
module _ (s : State) (roots cells values care : List ℕ) (long : most_outputs ≤ length roots) (room : plane_size ≤ length values)
    (space : plane_size ≤ length care) (held : is_network (stage_of s) ≡ true) (good : good_cells s roots cells ≡ true) where
  success : tabulate_answer s roots cells values care ≡ Ok 0
  unfolding tabulate_answer roots_size
  success =
      rw
      (le-leb most_outputs (length roots) long, le-leb plane_size (length values) room, le-leb plane_size (length care) space, held, good)

  pub tabulated_values : tabulate_values s roots cells values care
      ≡ over (plane_byte (λ x. x.value) (lent_table s roots cells)) plane_size values
  unfolding tabulate_values
  tabulated_values = rw success

  pub tabulated_care : tabulate_care s roots cells values care
      ≡ over (plane_byte (λ x. x.care) (lent_table s roots cells)) plane_size care
  unfolding tabulate_care
  tabulated_care = rw success
