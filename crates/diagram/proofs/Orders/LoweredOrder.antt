-- The top variable of an order at each level in turn: what is counted with the entries above it kept is what the table filled afresh
-- under each moved order has.
-- Assumes nothing.
use mathlib.Core.Path.{◌≡◌, sym, ap, ◌∙◌}
use mathlib.Core.Bool.{true}
use mathlib.Core.List.{List, [], ◌∷◌, ◌++◌, map, map-map}
use Prim.Native.Nat.{ℕ, ◌+◌, ◌^◌, ◌≤◌, ◌<◌}
use native.Mathlib.Omega.{arith}
use lib.Dec.{T, eqb, eqb_refl}
use lib.ListN.{get_or, take, drop}
use Rattle.lists.specs.Lists.{index, distinct, up_to}
use Rattle.lists.specs.Bits.{row_number, bit}
use Rattle.lists.proofs.Bools.{of_T}
use Rattle.lists.proofs.Lists.Membership.{eqb-equality, apart-first, without-none}
use Rattle.lists.proofs.Numbers.UpTo.{map-up_to-cong}
use Rattle.diagram.specs.Tree.{Tree, at}
use Rattle.diagram.specs.Filling.Fill.{Row, fill}
use Rattle.diagram.specs.Networks.Network.{counts}
use Rattle.diagram.specs.Orders.Order.{is_order, row_under, moved}
use Rattle.diagram.specs.Table.{Table, reordered, filled}
use Rattle.diagram.proofs.Tree.{at_above, tree-ext}
use Rattle.diagram.proofs.Orders.Order.{order-length, order-distinct, order-at, row_of, at-reordered}
use Rattle.diagram.proofs.Orders.Moved.{moved_order}
use Rattle.diagram.proofs.Orders.Lowered.{lowered, at-lowered}
use Rattle.diagram.proofs.Orders.LoweredCounts.{lowered_counts, lowered-counts}

-- the reordered table is the one tree that has at the levels' rows what the drawn table has at the drawn rows
reordered-only : (t : Table) (order : List ℕ) → T (is_order t.n order) → (j : ℕ) (f : Tree Row t.n)
    → ((r : ℕ) → r < 2 ^ t.n → at 0 (row_under t.n order r) f ≡ t.row j r) → reordered t order j ≡ f
reordered-only t order o j f k =
    tree-ext 0 (reordered t order j) f
    (λ a. let r = row_number t.n (λ v. a (index eqb v order)) in
    let s = row_of t.n order o a in
    let g : (q : ℕ) → 0 ≤ q → q < 0 + t.n → row_under t.n order r q ≡ a q = λ q _ h. s.1 q (omega arith) in
    sym (at_above 0 (row_under t.n order r) a (reordered t order j) g) ∙ at-reordered t order o j r s.0 ∙ sym (k r s.0)
    ∙ at_above 0 (row_under t.n order r) a f g)

moved-top : (v p : ℕ) (vs : List ℕ) → T (distinct eqb (v ∷ vs)) → moved v p (v ∷ vs) ≡ take p vs ++ v ∷ drop p vs
unfolding moved
moved-top v p vs d =
    let e : eqb v v ≡ true = of_T (eqb_refl v) in
    rw (e, without-none eqb eqb-equality v vs (apart-first eqb eqb-equality v vs d))

-- the table under the moved order is the table under the order, lowered
pub reordered-lowered : (t : Table) (order : List ℕ) → T (is_order t.n order) → (p : ℕ) → p < t.n → (j : ℕ)
    → reordered t (moved (get_or order 0 0) p order) j ≡ lowered p (reordered t order j)
reordered-lowered t [] o p h j = let e = order-length t.n [] o in absurd (omega arith)
reordered-lowered t (v ∷ vs) o p h j =
    let top : v < t.n = order-at t.n (v ∷ vs) o 0 (omega arith) in
    reordered-only t (moved v p (v ∷ vs)) (moved_order t.n v p (v ∷ vs) o top) j (lowered p (reordered t (v ∷ vs) j))
    (λ r k. rw (moved-top v p vs (order-distinct t.n (v ∷ vs) o))
    (at-lowered p (λ w. bit t.n w r) v vs (reordered t (v ∷ vs) j) (order-length t.n (v ∷ vs) o) ∙ at-reordered t (v ∷ vs) o j r k))

-- kept or filled afresh, with the top variable at each level in turn
pub lowered-afresh : (t : Table) (order : List ℕ) → T (is_order t.n order)
    → lowered_counts t.n (map (reordered t order) (up_to t.m))
    ≡ map (λ p. counts true t.n (filled true t (moved (get_or order 0 0) p order))) (up_to t.n)
unfolding filled
lowered-afresh t order o =
    lowered-counts t.n (map (reordered t order) (up_to t.m))
    ∙ map-up_to-cong t.n _ _
    (λ p h. ap (λ gs. counts true t.n (fill true t.n gs))
    (map-map (lowered p) (reordered t order) (up_to t.m)
    ∙ map-up_to-cong t.m _ _ (λ j _. sym (reordered-lowered t order o p h j))))
