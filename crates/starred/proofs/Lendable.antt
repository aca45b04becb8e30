-- A table whose n, m and order keep the heading's rules can be lent; so can those of the starred claims.
-- Assumes nothing.
use mathlib.Core.Path.{◌≡◌, refl, sym, ap, ◌∙◌}
use mathlib.Core.Bool.{Bool, true, false, ◌&&◌}
use mathlib.Core.List.{List, ◌++◌}
use Prim.Native.Nat.{ℕ, ◌+◌, ◌*◌, ◌-◌, ◌/◌, ◌%◌, ◌<◌, ◌^◌}
use native.Mathlib.Nat.{lt_of_lt_of_le, le_of_eq}
use native.Mathlib.Omega.{arith}
use borrow.Author.Tests.{le-leb}
use lib.Arith.{digits_lt, digits_div, digits_mod}
use lib.Dec.{T, ltb, leb, ltb→lt}
use lib.ListN.{length, get_or, length-append}
use lib.Seq.{take_at}
use Rattle.lists.specs.Lists.{all}
use Rattle.lists.proofs.Bools.{of_T, to-not, and_l, and_r}
use Rattle.lists.proofs.Lists.Membership.{all-at}
use Rattle.diagram.specs.Filling.Fill.{Row}
use Rattle.diagram.specs.Networks.Bound.{most_variables}
use Rattle.diagram.specs.Orders.Order.{is_order}
use Rattle.diagram.specs.Table.{Table}
use Rattle.diagram.specs.Starred.{Claim, builds, costs, sifts, fits, starred}
use Rattle.diagram.proofs.Orders.Order.{order-length}
use Rattle.table.specs.declared.Stage.TheVariants.{Table as AtTable}
use Rattle.table.specs.declared.State.{State}
use Rattle.block.specs.Bits.{stream_bit}
use Rattle.table.specs.State.{good_heading, order_of, stage_of, is_nothing}
use Rattle.table.specs.Calls.{plane_size}
use Rattle.table.proofs.Held.{stage-good, few_bits, heading-inputs, heading-order}
use Rattle.fill.specs.Work.{work_size}
use Rattle.fill.specs.Calls.{enough}
use Rattle.starred.specs.Lendable.{Lendable, Applies}
use Rattle.starred.proofs.Planes.{plane, plane-length, plane-bit, plane-bytes, zeros, zeros-length, zeros-bytes}

module _ (t : Table) (order : List ℕ) (good : T (good_heading t.n t.m order)) where
  lent_state : State
  lent_state = record { n = t.n; m = t.m; order = order ++ zeros (most_variables - t.n); count = 0; stage = AtTable }

  valid : T (is_order t.n order)
  valid = heading-order t.n t.m order good

  lent-order : order_of lent_state ≡ order
  unfolding lent_state
  lent-order = take_at order (zeros (most_variables - t.n)) t.n (order-length t.n order valid)

  lent-stage : is_nothing (stage_of lent_state) ≡ false
  unfolding lent_state
  lent-stage = ap is_nothing (stage-good lent_state (ap (good_heading t.n t.m) lent-order ∙ of_T good))

  lent-entries : length lent_state.order ≡ most_variables
  unfolding lent_state
  lent-entries =
      length-append order (zeros (most_variables - t.n))
      ∙ omega (arith, order-length t.n order valid, zeros-length (most_variables - t.n), heading-inputs t.n t.m order good)

  -- the table's bits in a stream, output 0's rows first
  module _ (f : Row → Bool) where
    bit_of : ℕ → Bool
    bit_of i = f (t.row (i / 2 ^ t.n) (i % 2 ^ t.n))

    lent-bit : (j r : ℕ) → j < t.m → r < 2 ^ t.n → stream_bit (plane bit_of) (j * 2 ^ t.n + r) ≡ f (t.row j r)
    unfolding bit_of lent_state
    lent-bit j r p q =
        plane-bit bit_of (j * 2 ^ t.n + r) (lt_of_lt_of_le (digits_lt p q) (few_bits lent_state (to-not lent-stage)))
        ∙ rw (digits_div j q, digits_mod j q)

  lent-long : (f g : ℕ → Bool) → T (enough (plane f) (plane g) (zeros work_size))
  lent-long f g =
      let v : leb plane_size (length (plane f)) ≡ true = le-leb plane_size (length (plane f)) (le_of_eq (sym (plane-length f))) in
      let c : leb plane_size (length (plane g)) ≡ true = le-leb plane_size (length (plane g)) (le_of_eq (sym (plane-length g))) in
      let w : leb work_size (length (zeros work_size)) ≡ true =
      le-leb work_size (length (zeros work_size)) (le_of_eq (sym (zeros-length work_size))) in
      rw (v, c, w) tt

  pub lendable : Lendable t order
  unfolding lent_state
  lendable =
      let values = bit_of (λ x. x.value) in
      let care = bit_of (λ x. x.care) in
      record {
        state = lent_state;
        values = plane values;
        care = plane care;
        work = zeros work_size;
        holds = record {
          inputs = refl;
          outputs = refl;
          ordered = lent-order;
          staged = lent-stage;
          cared = lent-bit (λ x. x.care);
          valued = λ j r p q c. lent-bit (λ x. x.value) j r p q;
        };
        entries = lent-entries;
        value_bytes = plane-bytes values;
        care_bytes = plane-bytes care;
        work_bytes = zeros-bytes work_size;
        long = lent-long values care;
      }

-- the heading's rules for a claim's table and order, and the sifted input
abbrev keeps : Claim → Bool
keeps (builds t order rows nodes refs) = good_heading t.n t.m order
keeps (costs t order c) = good_heading t.n t.m order
keeps (sifts t order v left c) = good_heading t.n t.m order && ltb v t.n
keeps (fits t order b fit) = good_heading t.n t.m order

applies : (c : Claim) → T (keeps c) → Applies c
unfolding Applies
applies (builds t order rows nodes refs) x = lendable t order x
applies (costs t order c) x = lendable t order x
applies (sifts t order v left c) x =
    let g = good_heading t.n t.m order in
    (lendable t order (and_l g (ltb v t.n) x), ltb→lt v t.n (and_r g (ltb v t.n) x))
applies (fits t order b fit) x = lendable t order x

starred-keep : T (all keeps starred)
unfolding starred good_heading is_order
starred-keep = tt

-- the starred claims, by their number from 0; d stands where there is none
pub starred-applies : (i : ℕ) (d : Claim) → i < length starred → Applies (get_or starred i d)
starred-applies i d h = applies (get_or starred i d) (all-at keeps starred starred-keep i d h)
