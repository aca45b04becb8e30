-- All functions of d variables, enumerated, and all normal ones; hence how many classes there can be at a level.
-- By the pigeonhole, a list that holds every function of a kind has at least as many elements as there are distinct ones:
-- that it holds no function twice isn't needed.
-- Assumes nothing.
use mathlib.Core.Path.{◌≡◌, refl, sym, ap, ap₂, ◌∙◌, subst}
use mathlib.Core.Bool.{Bool, true, false, not, cond, ◌&&◌}
use mathlib.Core.List.{List, [], ◌∷◌, ◌++◌, map}
use mathlib.Core.Logic.{⊎_elim}
use Prim.Native.Nat.{ℕ, zero, suc, ◌+◌, ◌*◌, ◌-◌, ◌^◌, ◌≤◌, zero-le}
use native.Mathlib.Nat.{le_refl, le_trans, le_of_eq, mul-le-mul, mul-sub, mul-one}
use native.Mathlib.Omega.{arith}
use lib.Dec.{T}
use lib.ListN.{length, length-append, length-map}
use lib.Pow.{pow_pos, pow-add}
use Rattle.lists.specs.Lists.{all, has, without, distinct}
use Rattle.lists.proofs.Bools.{split, of-not, to-T, to-not, absurd-T, and_T, or_cases}
use Rattle.lists.proofs.Lists.Membership.{all-has, has-append-l, has-append-r, without-has, without-lt, pigeonhole, has-map}
use Rattle.diagram.specs.Tree.{Tree, leaf, node, full, inverted, first, same}
use Rattle.diagram.specs.Networks.Network.{depends, normal, classes}
use Rattle.diagram.specs.Networks.Bound.{classes_over}
use Rattle.diagram.proofs.Tree.{same-equality, same→eq, eq→same, inverted-false, first-normal, varies, first-full}
use Rattle.diagram.proofs.Networks.Classes.{classes-distinct, classes-depend, classes-normal}

-- the trees whose 0-half is an l of ls and whose 1-half is of f l
abbrev over : {d : ℕ} → (Tree Bool d → List (Tree Bool d)) → List (Tree Bool d) → List (Tree Bool (suc d))
over f [] = []
over f (l ∷ ls) = map (node l) (f l) ++ over f ls

has-over : {d : ℕ} (f : Tree Bool d → List (Tree Bool d)) (ls : List (Tree Bool d)) (l h : Tree Bool d)
    → T (has same l ls) → T (has same h (f l)) → T (has same (node l h) (over f ls))
has-over f [] l h s t = absurd s
has-over f (k ∷ ks) l h s t =
    ⊎_elim
    (λ e. has-append-l same same-equality (node l h) (map (node k) (f k)) (over f ks)
    (subst (λ x. T (has same (node l h) (map (node x) (f x)))) (same→eq l k e)
    (has-map same same-equality same same-equality (node l) h (f l) t)))
    (λ e. has-append-r same same-equality (node l h) (map (node k) (f k)) (over f ks) (has-over f ks l h e t))
    (or_cases (same l k) (has same l ks) s)

over-length : {d : ℕ} (f : Tree Bool d → List (Tree Bool d)) (m : ℕ) → ((l : Tree Bool d) → length (f l) ≤ m)
    → (ls : List (Tree Bool d)) → length (over f ls) ≤ length ls * m
over-length f m b [] = zero-le
over-length f m b (l ∷ ls) =
    let e = length-append (map (node l) (f l)) (over f ls) in
    let k = length-map (f l) (node l) in
    omega (arith, b l, over-length f m b ls, e, k)

-- the normal functions of d variables; with `inv` false, all
abbrev pub normals : Bool → (d : ℕ) → List (Tree Bool d)
normals inv zero = leaf false ∷ cond inv [] (leaf true ∷ [])
normals inv (suc d) = over (λ _. normals false d) (normals inv d)

-- a function is normal where it isn't to be inverted
has-upright : {d : ℕ} (inv : Bool) (t : Tree Bool d) → inv && first t ≡ false → T (has same t (normals inv d))
has-upright true (leaf true) e = absurd (subst T e tt)
has-upright true (leaf false) e = tt
has-upright false (leaf true) e = tt
has-upright false (leaf false) e = tt
has-upright {d = suc d} inv (node l h) e =
    has-over (λ _. normals false d) (normals inv d) l h (has-upright inv l e) (has-upright false h refl)

upright : {d : ℕ} (inv : Bool) (t : Tree Bool d) → normal inv t ≡ t → inv && first t ≡ false
upright true t e = sym (ap first e) ∙ first-normal t
upright false t e = refl

pub has-normals : {d : ℕ} (inv : Bool) (t : Tree Bool d) → normal inv t ≡ t → T (has same t (normals inv d))
has-normals inv t e = has-upright inv t (upright inv t e)

-- one variable more: any normal function for a 0-half, any function for a 1-half
pub classes_over-suc : (inv : Bool) (d : ℕ) → classes_over inv (suc d) ≡ classes_over inv d * classes_over false d
classes_over-suc true d =
    let p = pow_pos d in
    let e : 2 ^ suc d - 1 ≡ (2 ^ d - 1) + 2 ^ d = omega arith in
    ap (λ x. 2 ^ x) e ∙ pow-add 2 (2 ^ d - 1) (2 ^ d)
classes_over-suc false d =
    let e : 2 ^ suc d ≡ 2 ^ d + 2 ^ d = omega arith in
    ap (λ x. 2 ^ x) e ∙ pow-add 2 (2 ^ d) (2 ^ d)

pub normals-length : (inv : Bool) (d : ℕ) → length (normals inv d) ≤ classes_over inv d
normals-length true zero = le_refl 1
normals-length false zero = le_refl 2
normals-length inv (suc d) =
    le_trans (over-length (λ _. normals false d) (classes_over false d) (λ _. normals-length false d) (normals inv d))
    (le_trans (mul-le-mul (normals-length inv d) (le_refl (classes_over false d))) (le_of_eq (sym (classes_over-suc inv d))))

-- distinct normal functions are at most so many
pub normal-most : (inv : Bool) (d : ℕ) (ts : List (Tree Bool d))
    → T (distinct same ts) → ((t : Tree Bool d) → T (has same t ts) → normal inv t ≡ t) → length ts ≤ classes_over inv d
normal-most inv d ts s f =
    le_trans (pigeonhole same same-equality ts (normals inv d) s (λ t h. has-normals inv t (f t h))) (normals-length inv d)

-- the normal functions of d + 1 variables that depend on the top one: the 1-half is any function but the 0-half
abbrev dependents : Bool → (d : ℕ) → List (Tree Bool (suc d))
dependents inv d = over (λ l. without same l (normals false d)) (normals inv d)

has-dependents : {d : ℕ} (inv : Bool) (t : Tree Bool (suc d)) → normal inv t ≡ t → T (depends t)
    → T (has same t (dependents inv d))
has-dependents {d} inv (node l h) e k =
    has-over (λ x. without same x (normals false d)) (normals inv d) l h (has-upright inv l (upright inv (node l h) e))
    (without-has same same-equality h l (normals false d) (has-upright false h refl) (of-not k))

dependents-length : (inv : Bool) (d : ℕ) → length (dependents inv d) ≤ classes_over inv (suc d) - classes_over inv d
dependents-length inv d =
    let others : (l : Tree Bool d) → length (without same l (normals false d)) ≤ classes_over false d - 1 =
    λ l. let a = without-lt same same-equality l (normals false d) (has-upright false l refl) in
    let b = normals-length false d in
    omega arith in
    let e : classes_over inv d * (classes_over false d - 1) ≡ classes_over inv (suc d) - classes_over inv d =
    mul-sub (classes_over inv d) (classes_over false d) 1
    ∙ ap₂ ◌-◌ (sym (classes_over-suc inv d)) (mul-one (classes_over inv d)) in
    le_trans (over-length (λ l. without same l (normals false d)) (classes_over false d - 1) others (normals inv d))
    (le_trans (mul-le-mul (normals-length inv d) (le_refl (classes_over false d - 1))) (le_of_eq e))

-- a level has at most as many nodes as there are classes that depend on its variable
pub classes-most : (inv : Bool) (d : ℕ) (ts : List (Tree Bool (suc d)))
    → length (classes inv ts) ≤ classes_over inv (suc d) - classes_over inv d
classes-most inv d ts =
    le_trans
    (pigeonhole same same-equality (classes inv ts) (dependents inv d) (classes-distinct inv ts)
    (λ x h. has-dependents inv x (classes-normal inv ts x h) (classes-depend inv ts x h)))
    (dependents-length inv d)

-- the constant functions

-- functions that vary have none of the constant ones among them
full-apart : (b : Bool) (d : ℕ) (ts : List (Tree Bool d)) → T (all varies ts) → has same (full b d) ts ≡ false
full-apart b d ts v =
    split (has same (full b d) ts)
    (λ e. absurd-T {b = same (full b d) (full (first (full b d)) d)} (eq→same (ap (λ x. full x d) (sym (first-full b d))))
    (of-not (all-has same same-equality varies ts v (full b d) (to-T e))))
    (λ e. e)

-- how many classes are constant
abbrev pub constants : Bool → ℕ
constants true = 1
constants false = 2

-- Distinct normal functions none of which is constant: with the constant ones put before them they still are distinct and normal.
pub classes-of-varied : (inv : Bool) (d : ℕ) (ts : List (Tree Bool d)) → T (distinct same ts)
    → ((t : Tree Bool d) → T (has same t ts) → normal inv t ≡ t) → T (all varies ts) → length ts + constants inv ≤ classes_over inv d
classes-of-varied true d ts s f v =
    let n : normal true (full false d) ≡ full false d =
    ap (λ i. inverted i (full false d)) (first-full false d) ∙ inverted-false (full false d) in
    let m : suc (length ts) ≤ classes_over true d =
    normal-most true d (full false d ∷ ts)
    (and_T (not (has same (full false d) ts)) (distinct same ts) (to-not (full-apart false d ts v)) s)
    (λ t h. ⊎_elim (λ e. subst (λ x. normal true x ≡ x) (sym (same→eq t (full false d) e)) n) (f t)
    (or_cases (same t (full false d)) (has same t ts) h)) in
    omega arith
classes-of-varied false d ts s f v =
    let a : same (full true d) (full false d) ≡ false =
    split (same (full true d) (full false d))
    (λ e. absurd (subst T (sym (first-full true d) ∙ ap first (same→eq (full true d) (full false d) (to-T e)) ∙ first-full false d) tt))
    (λ e. e) in
    let b = full-apart true d ts v in
    let c = full-apart false d ts v in
    let m : suc (suc (length ts)) ≤ classes_over false d =
    normal-most false d (full true d ∷ full false d ∷ ts) (rw (a, b, c) s) (λ t h. inverted-false t) in
    omega arith
