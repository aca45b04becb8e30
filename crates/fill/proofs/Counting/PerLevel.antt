-- A list as an array with a number for each level, and zeros past its end: made one number at a time, read back, and added up.
-- Assumes nothing.
use mathlib.Core.Path.{◌≡◌, refl, sym, ap, ◌∙◌}
use mathlib.Core.Bool.{cond}
use mathlib.Core.List.{List, [], ◌∷◌, ◌++◌, map, sum, append-nil, map-append}
use Prim.Native.Nat.{ℕ, zero, suc, ◌+◌, ◌≤◌, ◌<◌}
use native.Mathlib.Nat.{add-zero}
use native.Mathlib.Omega.{arith}
use borrow.Author.Tests.{ltb-true, ltb-false}
use lib.Dec.{ltb}
use lib.ListN.{length, get_or, take, set, length-append, get_or-append, get_or-eq_default}
use lib.Seq.{length-take-le, take-suc, take_all, get_or_at, get_or-take, ext_get_or}
use Rattle.lists.specs.Lists.{up_to}
use Rattle.lists.proofs.Bools.{split}
use Rattle.lists.proofs.Numbers.UpTo.{map-up_to-cong, get_or-map-up_to}
use Rattle.lists.proofs.Written.Filled.{filled, filled_more}
use Rattle.lists.proofs.Numbers.Total.{sum-snoc}
use Rattle.diagram.specs.Networks.Bound.{most_variables}
use Rattle.fill.specs.Calls.{per_level}

-- the first numbers of a longer list
per-level-filled : (xs ys : List ℕ) → per_level xs ≡ filled (λ w. get_or (xs ++ ys) w 0) most_variables (length xs)
per-level-filled xs ys =
    map-up_to-cong most_variables (λ w. get_or xs w 0) (λ w. cond (ltb w (length xs)) (get_or (xs ++ ys) w 0) 0)
    (λ w h. split (ltb w (length xs))
    (λ e. rw e (sym (get_or-append xs ys 0 w (ltb-true w (length xs) e))))
    (λ e. rw e (get_or-eq_default xs 0 (ltb-false w (length xs) e))))

-- one number more
pub per-level-more : (xs : List ℕ) (x j : ℕ) (l : List ℕ) → j ≡ length xs → length xs < most_variables → l ≡ per_level xs
    → set l j x ≡ per_level (xs ++ (x ∷ []))
per-level-more xs x j l e h q =
    let ys = xs ++ (x ∷ []) in
    let n : length xs + 1 ≡ length ys = sym (length-append xs (x ∷ [])) in
    ap (λ (k : ℕ). set l k x) e
    ∙ filled_more (λ w. get_or ys w 0) most_variables (length xs) h l x (q ∙ per-level-filled xs (x ∷ []))
    (sym (get_or_at xs x [] 0 (length xs) refl))
    ∙ ap (filled (λ w. get_or ys w 0) most_variables) n
    ∙ ap (λ (zs : List ℕ). filled (λ w. get_or zs w 0) most_variables (length ys)) (sym (append-nil ys))
    ∙ sym (per-level-filled ys [])

pub per-level-at : (xs : List ℕ) (k : ℕ) → k < most_variables → get_or (per_level xs) k 0 ≡ get_or xs k 0
per-level-at xs k h = get_or-map-up_to (λ w. get_or xs w 0) most_variables k 0 h

-- the list again
pub per-level-take : (xs : List ℕ) (n : ℕ) → length xs ≡ n → n ≤ most_variables → take n (per_level xs) ≡ xs
per-level-take xs n e h =
    let l : length (take n (per_level xs)) ≡ n = length-take-le n (per_level xs) h in
    ext_get_or 0 (take n (per_level xs)) xs (l ∙ sym e)
    (λ i q. let i-n : i < n = omega arith in get_or-take n (per_level xs) i 0 i-n ∙ per-level-at xs i (omega arith))

-- added up

sum-get_or : (xs : List ℕ) (j : ℕ) → sum ◌+◌ 0 (map (λ k. get_or xs k 0) (up_to j)) ≡ sum ◌+◌ 0 (take j xs)
sum-get_or xs zero = refl
sum-get_or xs (suc j) =
    ap (sum ◌+◌ 0) (map-append (λ k. get_or xs k 0) (up_to j) (j ∷ []))
    ∙ sum-snoc (map (λ k. get_or xs k 0) (up_to j)) (get_or xs j 0)
    ∙ ap (λ (n : ℕ). n + get_or xs j 0) (sum-get_or xs j)
    ∙ split (ltb j (length xs))
    (λ t. sym (ap (sum ◌+◌ 0) (take-suc xs j 0 (ltb-true j (length xs) t)) ∙ sum-snoc (take j xs) (get_or xs j 0)))
    (λ t. let h = ltb-false j (length xs) t in
    ap (λ (n : ℕ). sum ◌+◌ 0 (take j xs) + n) (get_or-eq_default xs 0 h)
    ∙ add-zero (sum ◌+◌ 0 (take j xs))
    ∙ ap (sum ◌+◌ 0) (take_all j xs h ∙ sym (take_all (suc j) xs (omega arith))))

pub sum-per-level : (xs : List ℕ) → length xs ≤ most_variables → sum ◌+◌ 0 (per_level xs) ≡ sum ◌+◌ 0 xs
sum-per-level xs h = sum-get_or xs most_variables ∙ ap (sum ◌+◌ 0) (take_all most_variables xs h)
