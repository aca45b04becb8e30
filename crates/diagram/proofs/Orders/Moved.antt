-- A variable moved to another level, the others in sequence: what that keeps, and that it is every order beside the first.
-- Assumes nothing.
use mathlib.Core.Path.{◌≡◌, refl, sym, ap, ap₂, ◌∙◌, subst}
use mathlib.Core.Bool.{Bool, true, false, not}
use mathlib.Core.List.{List, [], ◌∷◌, ◌++◌}
use Prim.Native.Nat.{ℕ, suc, ◌<◌}
use lib.Dec.{T, eqb, ltb, eqb→eq, eqb_refl, lt→ltb}
use lib.ListN.{length, take, drop, take-append-drop}
use Rattle.lists.specs.Lists.{all, has, index, without, distinct}
use Rattle.lists.proofs.Bools.{split, of_T, to-T, to-not, absurd-T, and_T, and_l, and_r}
use Rattle.lists.proofs.Lists.Membership.{eqb-equality, all-has, has_all, apart-first, apart-rest}
use Rattle.lists.proofs.Lists.Membership.{has-without, without-none, without-length, distinct_without}
use Rattle.lists.proofs.Numbers.Compared.{differ-swap}
use Rattle.diagram.specs.Orders.Order.{is_order, moved}
use Rattle.diagram.specs.Demands.{Beside}
use Rattle.diagram.proofs.Orders.Order.{to-order, order-length, order-all, order-distinct, every-variable, index_below}

-- v put between xs and ys

insert-length : (v : ℕ) (xs ys : List ℕ) → length (xs ++ v ∷ ys) ≡ suc (length (xs ++ ys))
insert-length v [] ys = refl
insert-length v (x ∷ xs) ys = ap suc (insert-length v xs ys)

insert_all : (p : ℕ → Bool) (v : ℕ) (xs ys : List ℕ) → T (p v) → T (all p (xs ++ ys)) → T (all p (xs ++ v ∷ ys))
insert_all p v [] ys h t = and_T (p v) (all p ys) h t
insert_all p v (x ∷ xs) ys h t =
    and_T (p x) (all p (xs ++ v ∷ ys)) (and_l (p x) (all p (xs ++ ys)) t) (insert_all p v xs ys h (and_r (p x) (all p (xs ++ ys)) t))

insert-hasnt : (x v : ℕ) (xs ys : List ℕ) → eqb x v ≡ false → has eqb x (xs ++ ys) ≡ false → has eqb x (xs ++ v ∷ ys) ≡ false
insert-hasnt x v [] ys e h = rw e h
insert-hasnt x v (y ∷ xs) ys e h =
    split (eqb x y) (λ q. absurd-T tt (rw q at h)) (λ q. rw q (insert-hasnt x v xs ys e (rw q at h)))

insert-distinct : (v : ℕ) (xs ys : List ℕ) → has eqb v (xs ++ ys) ≡ false → T (distinct eqb (xs ++ ys))
    → T (distinct eqb (xs ++ v ∷ ys))
insert-distinct v [] ys h d = and_T (not (has eqb v ys)) (distinct eqb ys) (to-not h) d
insert-distinct v (x ∷ xs) ys h d =
    split (eqb v x) (λ q. absurd-T tt (rw q at h))
    (λ q. and_T (not (has eqb x (xs ++ v ∷ ys))) (distinct eqb (xs ++ v ∷ ys))
    (to-not (insert-hasnt x v xs ys (differ-swap v x q) (apart-first eqb eqb-equality x (xs ++ ys) d)))
    (insert-distinct v xs ys (rw q at h) (apart-rest eqb eqb-equality x (xs ++ ys) d)))

insert-without : (v : ℕ) (xs ys : List ℕ) → without eqb v (xs ++ v ∷ ys) ≡ without eqb v (xs ++ ys)
insert-without v [] ys = let e : eqb v v ≡ true = of_T (eqb_refl v) in rw e
insert-without v (x ∷ xs) ys = rw (insert-without v xs ys)

-- the others

gone : (v : ℕ) (xs : List ℕ) → has eqb v (without eqb v xs) ≡ false
gone v xs =
    split (has eqb v (without eqb v xs)) (λ e. absurd-T (eqb_refl v) (has-without eqb eqb-equality v v xs (to-T e)).1) (λ e. e)

pub without-moved : (v p : ℕ) (order : List ℕ) → without eqb v (moved v p order) ≡ without eqb v order
unfolding moved
without-moved v p order =
    insert-without v (take p (without eqb v order)) (drop p (without eqb v order))
    ∙ ap (without eqb v) (take-append-drop p (without eqb v order))
    ∙ without-none eqb eqb-equality v (without eqb v order) (gone v order)

others_below : (n v : ℕ) (order : List ℕ) → T (is_order n order) → T (all (λ w. ltb w n) (without eqb v order))
others_below n v order o =
    has_all eqb eqb-equality (λ w. ltb w n) (without eqb v order)
    (λ x k. all-has eqb eqb-equality (λ w. ltb w n) order (order-all n order o) x (has-without eqb eqb-equality x v order k).0)

-- v taken out and put back leaves the same length, and distinct variables
pub moved_order : (n v p : ℕ) (order : List ℕ) → T (is_order n order) → v < n → T (is_order n (moved v p order))
unfolding moved
moved_order n v p order o h =
    let rest : List ℕ = without eqb v order in
    let e : take p rest ++ drop p rest ≡ rest = take-append-drop p rest in
    let l : suc (length rest) ≡ length order = without-length eqb eqb-equality v order (order-distinct n order o)
    (every-variable n order o v h) in
    to-order n (take p rest ++ v ∷ drop p rest)
    (insert-length v (take p rest) (drop p rest) ∙ ap (λ (xs : List ℕ). suc (length xs)) e ∙ l ∙ order-length n order o)
    (insert_all (λ w. ltb w n) v (take p rest) (drop p rest) (lt→ltb v n h)
    (subst (λ (xs : List ℕ). T (all (λ w. ltb w n) xs)) (sym e) (others_below n v order o)))
    (insert-distinct v (take p rest) (drop p rest)
    (subst (λ (xs : List ℕ). has eqb v xs ≡ false) (sym e) (gone v order))
    (subst (λ (xs : List ℕ). T (distinct eqb xs)) (sym e) (distinct_without eqb eqb-equality v order (order-distinct n order o))))

-- orders beside one another

-- what stands beside a list stands beside each that differs from it in the level of v
pub beside_same : {n v : ℕ} {order order' other : List ℕ} → without eqb v order ≡ without eqb v order'
    → Beside n v order other → Beside n v order' other
beside_same e b = record { valid = b.valid; others = b.others ∙ e }

pub beside-from : (v q : ℕ) (order : List ℕ) {n : ℕ} {other : List ℕ} → Beside n v (moved v q order) other
    → Beside n v order other
beside-from v q order b = beside_same (without-moved v q order) b

-- v moved to where it stands
pub moved-self : (v : ℕ) (order : List ℕ) → T (distinct eqb order) → T (has eqb v order)
    → moved v (index eqb v order) order ≡ order
unfolding moved
moved-self v [] d h = absurd h
moved-self v (y ∷ ys) d h =
    split (eqb v y)
    (λ e. let q : v ≡ y = eqb→eq v y (to-T e) in
    let none : has eqb v ys ≡ false = subst (λ (z : ℕ). has eqb z ys ≡ false) (sym q) (apart-first eqb eqb-equality y ys d) in
    rw e (ap₂ ◌∷◌ q (without-none eqb eqb-equality v ys none)))
    (λ e. rw e (ap (λ (xs : List ℕ). y ∷ xs) (moved-self v ys (apart-rest eqb eqb-equality y ys d) (rw e at h))))

-- an order beside another is that other with v moved to where the first has it
pub beside-moved : (n v : ℕ) (order other : List ℕ) → v < n → Beside n v order other
    → (other ≡ moved v (index eqb v other) order) × (index eqb v other < n)
unfolding moved
beside-moved n v order other h b = (
  sym (moved-self v other (order-distinct n other b.valid) (every-variable n other b.valid v h))
      ∙ ap (λ (xs : List ℕ). take (index eqb v other) xs ++ v ∷ drop (index eqb v other) xs) b.others,
  index_below n other b.valid v h,
)
