-- Orders of the variables: every variable stands at one level, and the drawn rows are those that the levels see.
-- Assumes nothing.
use mathlib.Core.Path.{◌≡◌, ap, ◌∙◌, subst}
use mathlib.Core.Bool.{Bool, ◌&&◌}
use mathlib.Core.List.{List}
use Prim.Native.Nat.{ℕ, ◌^◌, ◌<◌}
use native.Mathlib.Omega.{arith}
use lib.Dec.{T, eqb, ltb, eqb→eq, eqb_refl, ltb→lt}
use lib.ListN.{length, get_or}
use Rattle.lists.specs.Lists.{all, has, index, distinct}
use Rattle.lists.specs.Bits.{row_number, bit}
use Rattle.lists.proofs.Bools.{and_T, and_l, and_r}
use Rattle.lists.proofs.Lists.Membership.{eqb-equality, all-at, index-lt, get_or-index, index-get_or}
use Rattle.lists.proofs.Numbers.Compared.{none-missing}
use Rattle.lists.proofs.Bits.Digits.{number_lt, bit-number, number_bit, number-cong}
use Rattle.diagram.specs.Tree.{at}
use Rattle.diagram.specs.Orders.Order.{is_order, row_under, behind}
use Rattle.diagram.specs.Table.{Table, reordered}
use Rattle.diagram.proofs.Drawn.{at-drawn}

pub to-order : (n : ℕ) (order : List ℕ) → length order ≡ n → T (all (λ v. ltb v n) order) → T (distinct eqb order)
    → T (is_order n order)
unfolding is_order
to-order n order l b d =
    and_T (eqb (length order) n) _ (subst (λ (k : ℕ). T (eqb (length order) k)) l (eqb_refl (length order)))
    (and_T (all (λ v. ltb v n) order) (distinct eqb order) b d)

pub behind-lt : (n : ℕ) (order : List ℕ) (x : ℕ) → behind n order x < 2 ^ n
unfolding behind
behind-lt n order x = number_lt n _

module _ (n : ℕ) (order : List ℕ) (o : T (is_order n order)) where
  pub order-length : length order ≡ n
  unfolding is_order
  order-length = eqb→eq (length order) n (and_l (eqb (length order) n) (all (λ v. ltb v n) order && distinct eqb order) o)

  pub order-all : T (all (λ v. ltb v n) order)
  unfolding is_order
  order-all =
      and_l (all (λ v. ltb v n) order) (distinct eqb order)
      (and_r (eqb (length order) n) (all (λ v. ltb v n) order && distinct eqb order) o)

  pub order-distinct : T (distinct eqb order)
  unfolding is_order
  order-distinct =
      and_r (all (λ v. ltb v n) order) (distinct eqb order)
      (and_r (eqb (length order) n) (all (λ v. ltb v n) order && distinct eqb order) o)

  pub order-at : (p : ℕ) → p < n → get_or order p 0 < n
  order-at p h = ltb→lt (get_or order p 0) n (all-at (λ v. ltb v n) order order-all p 0 (omega (arith, order-length)))

  -- no variable is missing
  pub every-variable : (v : ℕ) → v < n → T (has eqb v order)
  every-variable = none-missing n order order-distinct order-all order-length

  pub index_below : (v : ℕ) → v < n → index eqb v order < n
  index_below v h = omega (arith, index-lt eqb eqb-equality v order (every-variable v h), order-length)

  pub index-order : (p : ℕ) → p < n → index eqb (get_or order p 0) order ≡ p
  index-order p h = index-get_or eqb eqb-equality order p 0 order-distinct (omega (arith, order-length))

  pub order-index : (v : ℕ) → v < n → get_or order (index eqb v order) 0 ≡ v
  order-index v h = get_or-index eqb eqb-equality v order 0 (every-variable v h)

  -- the drawn row behind the row that the levels see of r is r
  pub behind-row : (r : ℕ) → r < 2 ^ n → behind n order (row_number n (row_under n order r)) ≡ r
  unfolding behind
  behind-row r h =
      number-cong n (λ v. bit n (index eqb v order) (row_number n (row_under n order r))) (λ v. bit n v r)
      (λ v k. bit-number n (row_under n order r) (index eqb v order) (index_below v k) ∙ ap (λ (w : ℕ). bit n w r) (order-index v k))
      ∙ number_bit n r h

  -- whatever bits the levels are to see, some drawn row has them: this one
  pub row_of : (a : ℕ → Bool)
      → (row_number n (λ v. a (index eqb v order)) < 2 ^ n)
      × ((p : ℕ) → p < n → row_under n order (row_number n (λ v. a (index eqb v order))) p ≡ a p)
  row_of a = (
    number_lt n (λ v. a (index eqb v order)),
    λ p h. bit-number n (λ v. a (index eqb v order)) (get_or order p 0)
        (order-at p h) ∙ ap a (index-order p h),
  )

-- the reordered table has at the levels' row what the drawn table has at the drawn row
pub at-reordered : (t : Table) (order : List ℕ) → T (is_order t.n order) → (j r : ℕ) → r < 2 ^ t.n
    → at 0 (row_under t.n order r) (reordered t order j) ≡ t.row j r
at-reordered t order o j r h =
    at-drawn t.n (λ s. t.row j (behind t.n order s)) (row_under t.n order r) ∙ ap (t.row j) (behind-row t.n order o r h)
