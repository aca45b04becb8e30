-- Sizes, and rows and bytes by shifts: how many rows there are, how many bytes they take, and how many stand in a byte.
-- Assumes nothing.
use mathlib.Core.Path.{◌≡◌, refl, sym, ap, ◌∙◌}
use mathlib.Core.Bool.{Bool, cond}
use Prim.Native.Nat.{ℕ, ◌+◌, ◌*◌, ◌-◌, ◌%◌, ◌^◌, ◌≤◌, ◌<◌, min}
use native.Mathlib.Nat.{lt_of_lt_of_le, min-eq_left, min-eq_right, le_of_lt}
use native.Mathlib.Omega.{arith}
use borrow.Author.Tests.{le-leb, lt-leb, leb-true}
use lib.Dec.{leb}
use Rattle.lists.proofs.Bools.{split}
use lib.Pow.{pow-add, pow_mono, shl_lt}
use Rattle.lists.proofs.Bits.Digits.{one_shifted}
use Rattle.diagram.specs.Networks.Bound.{most_variables, most_outputs}
use Rattle.table.proofs.Files.Answers.{shifted-out}
use Rattle.reorder.specs.Sizes.{width, width_up_to, most_rows, part_size}
use Rattle.reorder.proofs.Pack.{width_small, width-rows, by_width}

pub most-rows : most_rows ≡ 1024
unfolding most_rows
most-rows = refl

pub part-size : part_size ≡ 256
unfolding part_size
part-size = refl

pub rows-room : (n : ℕ) → n ≤ most_variables → 2 ^ n ≤ most_rows
rows-room n h = omega (arith, most-rows, pow_mono {j = most_variables} h)

-- where an output's rows begin

pub base-shifted : (j n : ℕ) → j < most_outputs → n ≤ most_variables → j * 2 ^ n % 18446744073709551616 ≡ j * 2 ^ n
base-shifted j n h k = shifted-out n j k (le_of_lt h)

pub base-room : (j n : ℕ) → j < most_outputs → n ≤ most_variables → j * 2 ^ n % 18446744073709551616 < most_outputs * 2 ^ most_variables
base-room j n h k = rw (base-shifted j n h k) (lt_of_lt_of_le (shl_lt 4 n h) (pow_mono {j = 14} (omega arith)))

-- the bytes that the rows take, and the rows in each

pub width-shifted : (n : ℕ) → 3 ≤ n → n ≤ most_variables → 1 * 2 ^ (n - 3) % 18446744073709551616 ≡ width n
width-shifted n h k =
    let e : n - 3 + 3 ≡ n = omega arith in
    let q : 2 ^ n ≡ 2 ^ (n - 3) * 8 = ap (λ j. 2 ^ j) (sym e) ∙ pow-add 2 (n - 3) 3 in
    omega (arith, one_shifted (n - 3) (omega arith), width-rows n h)

pub rows-eight : (n : ℕ) → 3 ≤ n → 8 ≡ min 8 (2 ^ n)
rows-eight n h = sym (min-eq_left (pow_mono {i = 3} h))

-- each byte's rows are among the rows
pub byte-within : (n i : ℕ) → i < width n → 8 * i + min 8 (2 ^ n) ≤ 2 ^ n
byte-within n i h =
    by_width n
    (λ l. let e : min 8 (2 ^ n) ≡ 2 ^ n = min-eq_right (pow_mono {j = 3} (le_of_lt l)) in
    omega (arith, width_small n (le_of_lt l)))
    (λ l. omega (arith, rows-eight n l, width-rows n l))

-- a part fits its buffer
pub width_room : (n : ℕ) → n ≤ most_variables → width n + width n ≤ part_size
width_room n h =
    by_width n (λ l. omega (arith, part-size, width_small n (le_of_lt l)))
    (λ l. omega (arith, part-size, width-rows n l, most-rows, rows-room n h))

-- the bytes of the rows of variables that aren't too many
pub width-met : (d : ℕ) → d ≤ most_variables → width_up_to d ≡ width d
unfolding width_up_to
width-met d h = ap (λ (b : Bool). cond b (width d) 0) (le-leb d most_variables h)

pub width-past : (d : ℕ) → most_variables < d → 0 ≡ width_up_to d
unfolding width_up_to
width-past d h = ap (λ (b : Bool). cond b (width d) 0) (sym (lt-leb d most_variables h))

-- what is computed for a width fits a part, whatever d is
pub width-up-room : (d : ℕ) → width_up_to d + width_up_to d ≤ part_size
unfolding width_up_to
width-up-room d =
    split (leb d most_variables) (λ e. let h = leb-true d most_variables e in rw e (width_room d h)) (λ e. rw e (omega (arith, part-size)))
