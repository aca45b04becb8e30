-- An order with two neighbouring levels exchanged is an order.
-- Assumes nothing.
use mathlib.Core.Path.{◌≡◌, refl, sym, ap, ap₂, ◌∙◌, subst}
use mathlib.Core.Bool.{Bool, true, false, not, ◌&&◌, ◌||◌}
use mathlib.Core.List.{List, [], ◌∷◌}
use Prim.Native.Nat.{ℕ, zero, suc, ◌<◌}
use native.Mathlib.Nat.{not-suc-le-zero, le_of_suc-le-suc}
use native.Mathlib.Omega.{arith}
use lib.Dec.{T, eqb, ltb, eqb→eq, eqb_refl}
use lib.ListN.{length, get_or, set, take, length-set}
use lib.Seq.{take-set-lt, get_or-take}
use Rattle.lists.specs.Lists.{all, has, distinct}
use Rattle.lists.proofs.Bools.{both_ways}
use Rattle.diagram.specs.Orders.Order.{is_order}
use Rattle.diagram.proofs.Orders.Order.{to-order, order-length, order-all, order-distinct}
use Rattle.table.specs.State.{exchanged}

eqb_swap : (m n : ℕ) → eqb m n ≡ eqb n m
eqb_swap m n = both_ways (eqb m n) (eqb n m) (turn m n) (turn n m)
  where
    turn : (i j : ℕ) → T (eqb i j) → T (eqb j i)
    turn i j t = subst (λ (k : ℕ). T (eqb k i)) (eqb→eq i j t) (eqb_refl i)

-- at the two levels themselves

and-turn : (a b c : Bool) → a && (b && c) ≡ b && (a && c)
and-turn true true c = refl
and-turn true false c = refl
and-turn false true c = refl
and-turn false false c = refl

or_turn : (a b c : Bool) → a || (b || c) ≡ b || (a || c)
or_turn true true c = refl
or_turn true false c = refl
or_turn false true c = refl
or_turn false false c = refl

apart-turn : (a b c d : Bool) → not (a || b) && (not c && d) ≡ not (a || c) && (not b && d)
apart-turn true b c d = refl
apart-turn false true true d = refl
apart-turn false true false d = refl
apart-turn false false true d = refl
apart-turn false false false d = refl

-- a test of every entry, membership and distinctness do not see the exchange

pub all-exchanged : (q : ℕ → Bool) (p : ℕ) (l : List ℕ) → suc p < length l → all q (exchanged p l) ≡ all q l
all-exchanged q p [] h = absurd (not-suc-le-zero h)
all-exchanged q zero (x ∷ []) h = absurd (not-suc-le-zero (le_of_suc-le-suc h))
all-exchanged q zero (x ∷ y ∷ l) h = and-turn (q y) (q x) (all q l)
all-exchanged q (suc p) (x ∷ l) h = ap (λ (b : Bool). q x && b) (all-exchanged q p l (le_of_suc-le-suc h))

pub has-exchanged : (v p : ℕ) (l : List ℕ) → suc p < length l → has eqb v (exchanged p l) ≡ has eqb v l
has-exchanged v p [] h = absurd (not-suc-le-zero h)
has-exchanged v zero (x ∷ []) h = absurd (not-suc-le-zero (le_of_suc-le-suc h))
has-exchanged v zero (x ∷ y ∷ l) h = or_turn (eqb v y) (eqb v x) (has eqb v l)
has-exchanged v (suc p) (x ∷ l) h = ap (λ (b : Bool). eqb v x || b) (has-exchanged v p l (le_of_suc-le-suc h))

pub distinct-exchanged : (p : ℕ) (l : List ℕ) → suc p < length l → distinct eqb (exchanged p l) ≡ distinct eqb l
distinct-exchanged p [] h = absurd (not-suc-le-zero h)
distinct-exchanged zero (x ∷ []) h = absurd (not-suc-le-zero (le_of_suc-le-suc h))
distinct-exchanged zero (x ∷ y ∷ l) h =
    rw (eqb_swap y x) (apart-turn (eqb x y) (has eqb y l) (has eqb x l) (distinct eqb l))
distinct-exchanged (suc p) (x ∷ l) h =
    ap₂ (λ (a b : Bool). not a && b) (has-exchanged x p l (le_of_suc-le-suc h)) (distinct-exchanged p l (le_of_suc-le-suc h))

pub length_exchanged : (p : ℕ) (l : List ℕ) → length (exchanged p l) ≡ length l
length_exchanged p l = simp length-set

pub exchanged-order : (n p : ℕ) (l : List ℕ) → T (is_order n l) → suc p < n → T (is_order n (exchanged p l))
exchanged-order n p l o h =
    let k : suc p < length l = omega (arith, order-length n l o) in
    to-order n (exchanged p l) (length_exchanged p l ∙ order-length n l o)
    (subst T (sym (all-exchanged (λ v. ltb v n) p l k)) (order-all n l o)) (subst T (sym (distinct-exchanged p l k)) (order-distinct n l o))

-- of the first n entries, levels below n are exchanged alike
pub take-exchanged : (n p : ℕ) (l : List ℕ) → suc p < n → take n (exchanged p l) ≡ exchanged p (take n l)
take-exchanged n p l h =
    take-set-lt n (set l p (get_or l (suc p) 0)) (suc p) (get_or l p 0) h
    ∙ ap (λ (m : List ℕ). set m (suc p) (get_or l p 0)) (take-set-lt n l p (get_or l (suc p) 0) (omega arith))
    ∙ ap₂ (λ (x y : ℕ). set (set (take n l) p x) (suc p) y) (sym (get_or-take n l (suc p) 0 h)) (sym (get_or-take n l p 0 (omega arith)))
